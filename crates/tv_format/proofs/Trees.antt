-- Trees have one reading.
use Rattle.std.proofs.Common.{◌≡◌, ℕ, List, refl, sym, ap, arith}
use Rattle.tv_base.specs.Parts.{OneReading}
use Rattle.tv_format.specs.Tree.{Tree, leaf, array, object, Elements, no_elements, element, Entries, no_entries, entry, element_count, entry_count}
use Rattle.tv_format.specs.Version.{Version, entry_total}
use Rattle.tv_format.specs.Leaves.{type_of}
use Rattle.tv_format.specs.LeavesLaws.{leaf_coded}
use Rattle.tv_format.specs.Encoding.{Encodes, EncodesElements, EncodesEntries, EncodesPair, EncodesDocument, NoLegacy}
use Rattle.tv_base.proofs.Agreement.{Agree, agree_from, one_from, agree_map, agree_empty, agree_then, agree_behind, agree_left, agree_right}
use Rattle.tv_base.proofs.Numbers.{agree_number, agree_counted, agree_fixed}
use Rattle.tv_format.proofs.Leaves.{agree_leaf, agree_key, total_same}

module _ (Legacy : List ℕ → Entries → Type 0) (v : Version) (one_legacy : OneReading Legacy) where
  mutual
    pub agree_tree : (s t : Tree) → Agree (λ b. Encodes Legacy v b s) (λ b. Encodes Legacy v b t) (s ≡ t)
    agree_tree (leaf l) (leaf m) = agree_map (ap leaf) (agree_behind (λ e. agree_leaf v l m e))
    agree_tree (leaf l) (array us) = agree_behind (λ e. absurd ((leaf_coded (type_of l)).no_array e))
    agree_tree (array ts) (leaf m) = agree_behind (λ e. absurd ((leaf_coded (type_of m)).no_array (sym e)))
    agree_tree (leaf l) (object fs) = agree_right (agree_behind (λ e. absurd ((leaf_coded (type_of l)).no_object e))) (agree_behind (λ e. absurd ((leaf_coded (type_of l)).no_legacy e)))
    agree_tree (object es) (leaf m) = agree_left (agree_behind (λ e. absurd ((leaf_coded (type_of m)).no_object (sym e)))) (agree_behind (λ e. absurd ((leaf_coded (type_of m)).no_legacy (sym e))))
    agree_tree (array ts) (array us) = agree_map (λ e. ap array e.1) (agree_behind (λ _. agree_then (agree_number (element_count ts) (element_count us)) (λ e. agree_elements ts us e)))
    agree_tree (array ts) (object fs) = agree_right (agree_behind (λ e. absurd (omega arith))) (agree_behind (λ e. absurd (omega arith)))
    agree_tree (object es) (array us) = agree_left (agree_behind (λ e. absurd (omega arith))) (agree_behind (λ e. absurd (omega arith)))
    agree_tree (object es) (object fs) =
        agree_left
        (agree_right (agree_map (λ e. ap object e.1) (agree_behind (λ _. agree_then (agree_number (entry_total v (entry_count es)) (entry_total v (entry_count fs))) (λ e. agree_entries es fs (total_same v (entry_count es) (entry_count fs) e))))) (agree_behind (λ e. absurd (omega arith))))
        (agree_right (agree_behind (λ e. absurd (omega arith))) (agree_map (ap object) (agree_behind (λ _. agree_from {R = Legacy} one_legacy es fs))))

    pub agree_elements : (ts us : Elements) → element_count ts ≡ element_count us → Agree (λ b. EncodesElements Legacy v b ts) (λ b. EncodesElements Legacy v b us) (ts ≡ us)
    agree_elements no_elements no_elements e = agree_map (λ _. refl) agree_empty
    agree_elements (element t ts) (element u us) e = agree_map (λ s. λ i. element (s.0 i) (s.1 i)) (agree_then (agree_tree t u) (λ _. agree_elements ts us (omega arith)))
    agree_elements no_elements (element u us) e = absurd (omega arith)
    agree_elements (element t ts) no_elements e = absurd (omega arith)

    pub agree_entries : (es fs : Entries) → entry_count es ≡ entry_count fs → Agree (λ b. EncodesEntries Legacy v b es) (λ b. EncodesEntries Legacy v b fs) (es ≡ fs)
    agree_entries no_entries no_entries e = agree_map (λ _. refl) agree_empty
    agree_entries (entry k t es) (entry l u fs) e =
        agree_map (λ s. λ i. entry (s.0 i) (s.1.0 i) (s.1.1 i)) (agree_then (agree_key v k l) (λ _. agree_then (agree_tree t u) (λ _. agree_entries es fs (omega arith))))
    agree_entries no_entries (entry l u fs) e = absurd (omega arith)
    agree_entries (entry k t es) no_entries e = absurd (omega arith)

  pub one_tree : OneReading (Encodes Legacy v)
  one_tree = one_from (Encodes Legacy v) agree_tree

  pub agree_pair : (p q : ℕ × Tree) → Agree (λ b. EncodesPair Legacy v b p) (λ b. EncodesPair Legacy v b q) (p ≡ q)
  agree_pair p q = agree_map (λ h. λ i. (h.0 i, h.1 i)) (agree_then (agree_fixed 4 p.0 q.0) (λ _. agree_tree p.1 q.1))

  pub one_pair : OneReading (EncodesPair Legacy v)
  one_pair = one_from (EncodesPair Legacy v) agree_pair

  pub one_document : OneReading (EncodesDocument Legacy v)
  one_document = one_from (EncodesDocument Legacy v) (λ c d. agree_counted {R = EncodesPair Legacy v} one_pair c d)

pub no_legacy_reads : OneReading NoLegacy
no_legacy_reads a b x y m n p q e = absurd p
