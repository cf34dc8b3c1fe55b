-- Bytes that open too many lists begin no value within the depth.
use Rattle.std.proofs.Common.{◌≡◌, ◌≢◌, ℕ, zero, suc, ◌<◌, List, [], ◌∷◌, ◌++◌, sym, ap, ◌∙◌, arith, inl, inr, append_assoc}
use Rattle.std.proofs.lemmas.List.{append_cancel_left}
use Rattle.tv_base.proofs.Numbers.{one_number}
use Rattle.tv_reader.specs.Legacy.{Legacy}
use Rattle.tv_reader.proofs.UniqueLegacy.{one_legacy}
use Rattle.tv_format.specs.Encoding.{Encodes, EncodesElements, EncodesEntries}
use Rattle.tv_format.specs.Leaves.{type_of}
use Rattle.tv_format.specs.LeavesLaws.{leaf_coded}
use Rattle.tv_format.specs.Tree.{Tree, leaf, array, object, Elements, no_elements, element, element_count, Entries, no_entries, entry, entry_count}
use Rattle.tv_format.specs.Version.{Version, entry_total}
use Rattle.tv_format.proofs.Leaves.{agree_key, total_same}
use Rattle.tv_format.proofs.Trees.{one_tree}
use Rattle.tv_reader.specs.Depth.{EncodesWithin, ElementsWithin, EntriesWithin, BehindKey, Opens}

-- ---- what is encoded within a depth is encoded

mutual
  pub within_encodes : (v : Version) (n : ℕ) (t : Tree) (b : List ℕ) → EncodesWithin v n b t → Encodes Legacy v b t
  within_encodes v n (leaf l) b h = h
  within_encodes v zero (array ts) b h = absurd h
  within_encodes v (suc n) (array ts) b h = let p = h.encoded in
      record { body = h.body; joined = h.joined; encoded = record { prefix = p.prefix; rest = p.rest; joined = p.joined; first = p.first; second = elements_encode v n ts p.rest p.second } }
  within_encodes v zero (object es) b h = inr h
  within_encodes v (suc n) (object es) b (inl h) = let p = h.encoded in
      inl (record { body = h.body; joined = h.joined; encoded = record { prefix = p.prefix; rest = p.rest; joined = p.joined; first = p.first; second = entries_encode v n es p.rest p.second } })
  within_encodes v (suc n) (object es) b (inr h) = inr h

  pub elements_encode : (v : Version) (n : ℕ) (ts : Elements) (b : List ℕ) → ElementsWithin v n b ts → EncodesElements Legacy v b ts
  elements_encode v n no_elements b h = h
  elements_encode v n (element t ts) b h = record { prefix = h.prefix; rest = h.rest; joined = h.joined; first = within_encodes v n t h.prefix h.first; second = elements_encode v n ts h.rest h.second }

  pub entries_encode : (v : Version) (n : ℕ) (es : Entries) (b : List ℕ) → EntriesWithin v n b es → EncodesEntries Legacy v b es
  entries_encode v n no_entries b h = h
  entries_encode v n (entry k t es) b h = let q = h.second in
      record { prefix = h.prefix; rest = h.rest; joined = h.joined; first = h.first; second = record { prefix = q.prefix; rest = q.rest; joined = q.joined; first = within_encodes v n t q.prefix q.first; second = entries_encode v n es q.rest q.second } }

-- ---- lists of bytes

apart : (x y : ℕ) (a b c d : List ℕ) (e f : List ℕ) → x ≢ y → c ≡ x ∷ a → d ≡ y ∷ b → c ++ e ≡ d ++ f → ⊥
apart x y a b c d e f other p q same =
    let there : x ∷ (a ++ e) ≡ y ∷ (b ++ f) = sym (ap (λ (l : List ℕ). l ++ e) p) ∙ same ∙ ap (λ (l : List ℕ). l ++ f) q in
    other cc

behind : (x : ℕ) (a b c d e f : List ℕ) → c ≡ x ∷ a → d ≡ x ∷ b → c ++ e ≡ d ++ f → a ++ e ≡ b ++ f
behind x a b c d e f p q same =
    let there : x ∷ (a ++ e) ≡ x ∷ (b ++ f) = sym (ap (λ (l : List ℕ). l ++ e) p) ∙ same ∙ ap (λ (l : List ℕ). l ++ f) q in
    cc

-- two lists that go on alike, cut in two
cut : (a b c d e f x y : List ℕ) → a ≡ b ++ c → d ≡ e ++ f → a ++ x ≡ d ++ y → b ++ (c ++ x) ≡ e ++ (f ++ y)
cut a b c d e f x y p q same = sym (append_assoc b c x) ∙ ap (λ (l : List ℕ). l ++ x) (sym p) ∙ same ∙ ap (λ (l : List ℕ). l ++ y) q ∙ append_assoc e f y

pub same_rest : (b e c f : List ℕ) → b ≡ e → b ++ c ≡ e ++ f → c ≡ f
same_rest b e c f same joined = append_cancel_left e c f (ap (λ (l : List ℕ). l ++ c) (sym same) ∙ joined)

-- ---- one too many among the children

abbrev Excludes : Version → ℕ → (List ℕ → Type 0) → Type 0
Excludes v n P = (p x b y : List ℕ) (t : Tree) → P p → EncodesWithin v n b t → p ++ x ≡ b ++ y → ⊥

module _ (v : Version) (n : ℕ) (P : List ℕ → Type 0) (excludes : Excludes v n P) where
  elements_exclude : (before ts : Elements) (prefix rest x b y : List ℕ) → element_count before < element_count ts → ElementsWithin v n prefix before → P rest → ElementsWithin v n b ts → prefix ++ (rest ++ x) ≡ b ++ y → ⊥
  elements_exclude no_elements no_elements prefix rest x b y fewer w p h same = absurd (omega (arith, fewer))
  elements_exclude (element s ss) no_elements prefix rest x b y fewer w p h same = absurd (omega (arith, fewer))
  elements_exclude no_elements (element t ts) prefix rest x b y fewer w p h same =
      excludes rest x h.prefix (h.rest ++ y) t p h.first
      (ap (λ (l : List ℕ). l ++ (rest ++ x)) (sym w) ∙ same ∙ ap (λ (l : List ℕ). l ++ y) h.joined ∙ append_assoc h.prefix h.rest y)
  elements_exclude (element s ss) (element t ts) prefix rest x b y fewer w p h same =
      let there = cut prefix w.prefix w.rest b h.prefix h.rest (rest ++ x) y w.joined h.joined same in
      let one = one_tree Legacy v one_legacy w.prefix h.prefix (w.rest ++ (rest ++ x)) (h.rest ++ y) s t (within_encodes v n s w.prefix w.first) (within_encodes v n t h.prefix h.first) there in
      elements_exclude ss ts w.rest rest x h.rest y (omega (arith, fewer)) w.second p h.second (same_rest w.prefix h.prefix (w.rest ++ (rest ++ x)) (h.rest ++ y) one.0 there)

  entries_exclude : (before es : Entries) (prefix rest x b y : List ℕ) → entry_count before < entry_count es → EntriesWithin v n prefix before → BehindKey v P rest → EntriesWithin v n b es → prefix ++ (rest ++ x) ≡ b ++ y → ⊥
  entries_exclude no_entries no_entries prefix rest x b y fewer w p h same = absurd (omega (arith, fewer))
  entries_exclude (entry l s fs) no_entries prefix rest x b y fewer w p h same = absurd (omega (arith, fewer))
  entries_exclude no_entries (entry k t es) prefix rest x b y fewer w p h same =
      let q = p.1 in
      let all : rest ++ x ≡ b ++ y = ap (λ (l : List ℕ). l ++ (rest ++ x)) (sym w) ∙ same in
      let there = cut rest q.prefix q.rest b h.prefix h.rest x y q.joined h.joined all in
      let one = (agree_key v p.0 k).agree q.prefix h.prefix (q.rest ++ x) (h.rest ++ y) q.first h.first there in
      let value = same_rest q.prefix h.prefix (q.rest ++ x) (h.rest ++ y) one.0 there in
      excludes q.rest x h.second.prefix (h.second.rest ++ y) t q.second h.second.first
      (value ∙ ap (λ (l : List ℕ). l ++ y) h.second.joined ∙ append_assoc h.second.prefix h.second.rest y)
  entries_exclude (entry l s fs) (entry k t es) prefix rest x b y fewer w p h same =
      let there = cut prefix w.prefix w.rest b h.prefix h.rest (rest ++ x) y w.joined h.joined same in
      let one = (agree_key v l k).agree w.prefix h.prefix (w.rest ++ (rest ++ x)) (h.rest ++ y) w.first h.first there in
      let value = same_rest w.prefix h.prefix (w.rest ++ (rest ++ x)) (h.rest ++ y) one.0 there in
      let c = w.second in
      let d = h.second in
      let then = cut w.rest c.prefix c.rest h.rest d.prefix d.rest (rest ++ x) y c.joined d.joined value in
      let tree = one_tree Legacy v one_legacy c.prefix d.prefix (c.rest ++ (rest ++ x)) (d.rest ++ y) s t (within_encodes v n s c.prefix c.first) (within_encodes v n t d.prefix d.first) then in
      entries_exclude fs es c.rest rest x d.rest y (omega (arith, fewer)) c.second p d.second (same_rest c.prefix d.prefix (c.rest ++ (rest ++ x)) (d.rest ++ y) tree.0 then)

-- ---- values

pub opens_excludes : (v : Version) (n : ℕ) → Excludes v n (Opens v n)
opens_excludes v zero p x b y (leaf l) (inl o) h same = apart 12 _ [] h.body p b x y (λ e. (leaf_coded (type_of l)).no_array (sym e)) o h.joined same
opens_excludes v zero p x b y (leaf l) (inr o) h same = apart 13 _ [] h.body p b x y (λ e. (leaf_coded (type_of l)).no_object (sym e)) o h.joined same
opens_excludes v zero p x b y (array ts) o h same = absurd h
opens_excludes v zero p x b y (object es) (inl o) h same = apart 12 8 [] h.body p b x y (λ e. absurd (omega (arith, e))) o h.joined same
opens_excludes v zero p x b y (object es) (inr o) h same = apart 13 8 [] h.body p b x y (λ e. absurd (omega (arith, e))) o h.joined same
opens_excludes v (suc n) p x b y (leaf l) (inl o) h same = apart 12 _ o.body h.body p b x y (λ e. (leaf_coded (type_of l)).no_array (sym e)) o.joined h.joined same
opens_excludes v (suc n) p x b y (leaf l) (inr o) h same = apart 13 _ o.body h.body p b x y (λ e. (leaf_coded (type_of l)).no_object (sym e)) o.joined h.joined same
opens_excludes v (suc n) p x b y (array ts) (inl o) h same =
    let count = o.encoded.0 in
    let q = o.encoded.1 in
    let g = h.encoded in
    let inner = behind 12 o.body h.body p b x y o.joined h.joined same in
    let there = cut o.body q.prefix q.rest h.body g.prefix g.rest x y q.joined g.joined inner in
    let one = one_number q.prefix g.prefix (q.rest ++ x) (g.rest ++ y) count (element_count ts) q.first g.first there in
    let children = same_rest q.prefix g.prefix (q.rest ++ x) (g.rest ++ y) one.0 there in
    let a = q.second.parts in
    elements_exclude v n (Opens v n) (opens_excludes v n) q.second.before ts a.prefix a.rest x g.rest y (omega (arith, q.second.fewer, one.1)) a.first a.second g.second
    (sym (append_assoc a.prefix a.rest x) ∙ ap (λ (l : List ℕ). l ++ x) (sym a.joined) ∙ children)
opens_excludes v (suc n) p x b y (array ts) (inr o) h same = apart 13 12 o.body h.body p b x y (λ e. absurd (omega (arith, e))) o.joined h.joined same
opens_excludes v (suc n) p x b y (object es) (inl o) (inl h) same = apart 12 13 o.body h.body p b x y (λ e. absurd (omega (arith, e))) o.joined h.joined same
opens_excludes v (suc n) p x b y (object es) (inl o) (inr h) same = apart 12 8 o.body h.body p b x y (λ e. absurd (omega (arith, e))) o.joined h.joined same
opens_excludes v (suc n) p x b y (object es) (inr o) (inr h) same = apart 13 8 o.body h.body p b x y (λ e. absurd (omega (arith, e))) o.joined h.joined same
opens_excludes v (suc n) p x b y (object es) (inr o) (inl h) same =
    let count = o.encoded.0 in
    let q = o.encoded.1 in
    let g = h.encoded in
    let inner = behind 13 o.body h.body p b x y o.joined h.joined same in
    let there = cut o.body q.prefix q.rest h.body g.prefix g.rest x y q.joined g.joined inner in
    let one = one_number q.prefix g.prefix (q.rest ++ x) (g.rest ++ y) (entry_total v count) (entry_total v (entry_count es)) q.first g.first there in
    let many = total_same v count (entry_count es) one.1 in
    let children = same_rest q.prefix g.prefix (q.rest ++ x) (g.rest ++ y) one.0 there in
    let a = q.second.parts in
    entries_exclude v n (Opens v n) (opens_excludes v n) q.second.before es a.prefix a.rest x g.rest y (omega (arith, q.second.fewer, many)) a.first a.second g.second
    (sym (append_assoc a.prefix a.rest x) ∙ ap (λ (l : List ℕ). l ++ x) (sym a.joined) ∙ children)
