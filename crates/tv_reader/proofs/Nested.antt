-- What nests within a depth as a tree is encoded within it, and without legacy objects only that.
use Rattle.std.proofs.Common.{◌≡◌, ℕ, zero, suc, List, ◌∷◌, sym, subst, ◌∙◌, inl, inr}
use Rattle.tv_base.proofs.Numbers.{one_number}
use Rattle.tv_reader.specs.Legacy.{Legacy}
use Rattle.tv_reader.proofs.UniqueLegacy.{one_legacy}
use Rattle.tv_format.specs.Encoding.{Encodes, EncodesElements, EncodesEntries, NoLegacy}
use Rattle.tv_format.specs.Tree.{Tree, leaf, array, object, Elements, no_elements, element, element_count, Entries, no_entries, entry, entry_count}
use Rattle.tv_format.specs.Version.{Version, entry_total}
use Rattle.tv_format.proofs.Leaves.{agree_key}
use Rattle.tv_format.proofs.Trees.{one_tree}
use Rattle.tv_reader.specs.Depth.{EncodesWithin, ElementsWithin, EntriesWithin}
use Rattle.tv_value.specs.Nesting.{NestsWithin, ElementsNestWithin, EntriesNestWithin}
use Rattle.tv_reader.proofs.Depths.{within_encodes, same_rest}

mutual
  pub nested_within : (v : Version) (n : ℕ) (t : Tree) (b : List ℕ) → Encodes Legacy v b t → NestsWithin n t → EncodesWithin v n b t
  nested_within v n (leaf l) b h nests = h
  nested_within v zero (array ts) b h nests = absurd nests
  nested_within v (suc n) (array ts) b h nests = let p = h.encoded in
      record { body = h.body; joined = h.joined; encoded = record { prefix = p.prefix; rest = p.rest; joined = p.joined; first = p.first; second = elements_within v n ts p.rest p.second nests } }
  nested_within v zero (object es) b h nests = absurd nests
  nested_within v (suc n) (object es) b (inl h) nests = let p = h.encoded in
      inl (record { body = h.body; joined = h.joined; encoded = record { prefix = p.prefix; rest = p.rest; joined = p.joined; first = p.first; second = entries_within v n es p.rest p.second nests } })
  nested_within v (suc n) (object es) b (inr h) nests = inr h

  elements_within : (v : Version) (n : ℕ) (ts : Elements) (b : List ℕ) → EncodesElements Legacy v b ts → ElementsNestWithin n ts → ElementsWithin v n b ts
  elements_within v n no_elements b h nests = h
  elements_within v n (element t ts) b h nests = record { prefix = h.prefix; rest = h.rest; joined = h.joined; first = nested_within v n t h.prefix h.first nests.0; second = elements_within v n ts h.rest h.second nests.1 }

  entries_within : (v : Version) (n : ℕ) (es : Entries) (b : List ℕ) → EncodesEntries Legacy v b es → EntriesNestWithin n es → EntriesWithin v n b es
  entries_within v n no_entries b h nests = h
  entries_within v n (entry k t es) b h nests = let q = h.second in
      record { prefix = h.prefix; rest = h.rest; joined = h.joined; first = h.first; second = record { prefix = q.prefix; rest = q.rest; joined = q.joined; first = nested_within v n t q.prefix q.first nests.0; second = entries_within v n es q.rest q.second nests.1 } }

-- ---- without legacy objects

mutual
  plain_encodes : (v : Version) (t : Tree) (b : List ℕ) → Encodes NoLegacy v b t → Encodes Legacy v b t
  plain_encodes v (leaf l) b h = h
  plain_encodes v (array ts) b h = let p = h.encoded in
      record { body = h.body; joined = h.joined; encoded = record { prefix = p.prefix; rest = p.rest; joined = p.joined; first = p.first; second = plain_elements v ts p.rest p.second } }
  plain_encodes v (object es) b (inl h) = let p = h.encoded in
      inl (record { body = h.body; joined = h.joined; encoded = record { prefix = p.prefix; rest = p.rest; joined = p.joined; first = p.first; second = plain_entries v es p.rest p.second } })
  plain_encodes v (object es) b (inr h) = absurd h.encoded

  plain_elements : (v : Version) (ts : Elements) (b : List ℕ) → EncodesElements NoLegacy v b ts → EncodesElements Legacy v b ts
  plain_elements v no_elements b h = h
  plain_elements v (element t ts) b h = record { prefix = h.prefix; rest = h.rest; joined = h.joined; first = plain_encodes v t h.prefix h.first; second = plain_elements v ts h.rest h.second }

  plain_entries : (v : Version) (es : Entries) (b : List ℕ) → EncodesEntries NoLegacy v b es → EncodesEntries Legacy v b es
  plain_entries v no_entries b h = h
  plain_entries v (entry k t es) b h = let q = h.second in
      record { prefix = h.prefix; rest = h.rest; joined = h.joined; first = h.first; second = record { prefix = q.prefix; rest = q.rest; joined = q.joined; first = plain_encodes v t q.prefix q.first; second = plain_entries v es q.rest q.second } }

codes_apart : (a b c : List ℕ) → c ≡ 13 ∷ a → c ≡ 8 ∷ b → ⊥
codes_apart a b c p q = let same : 13 ∷ a ≡ 8 ∷ b = sym p ∙ q in absurd cc

same_body : (x : ℕ) (a b c : List ℕ) → c ≡ x ∷ a → c ≡ x ∷ b → a ≡ b
same_body x a b c p q = let same : x ∷ a ≡ x ∷ b = sym p ∙ q in cc

mutual
  pub within_nests : (v : Version) (n : ℕ) (t : Tree) (b : List ℕ) → Encodes NoLegacy v b t → EncodesWithin v n b t → NestsWithin n t
  within_nests v n (leaf l) b g w = tt
  within_nests v zero (array ts) b g w = absurd w
  within_nests v (suc n) (array ts) b g w =
      let p = g.encoded in
      let q = w.encoded in
      let there = sym p.joined ∙ same_body 12 g.body w.body b g.joined w.joined ∙ q.joined in
      let one = one_number p.prefix q.prefix p.rest q.rest (element_count ts) (element_count ts) p.first q.first there in
      elements_nest v n ts p.rest q.rest (same_rest p.prefix q.prefix p.rest q.rest one.0 there) p.second q.second
  within_nests v zero (object es) b (inl g) w = absurd (codes_apart g.body w.body b g.joined w.joined)
  within_nests v n (object es) b (inr g) w = absurd g.encoded
  within_nests v (suc n) (object es) b (inl g) (inr w) = absurd (codes_apart g.body w.body b g.joined w.joined)
  within_nests v (suc n) (object es) b (inl g) (inl w) =
      let p = g.encoded in
      let q = w.encoded in
      let there = sym p.joined ∙ same_body 13 g.body w.body b g.joined w.joined ∙ q.joined in
      let one = one_number p.prefix q.prefix p.rest q.rest (entry_total v (entry_count es)) (entry_total v (entry_count es)) p.first q.first there in
      entries_nest v n es p.rest q.rest (same_rest p.prefix q.prefix p.rest q.rest one.0 there) p.second q.second

  elements_nest : (v : Version) (n : ℕ) (ts : Elements) (b c : List ℕ) → b ≡ c → EncodesElements NoLegacy v b ts → ElementsWithin v n c ts → ElementsNestWithin n ts
  elements_nest v n no_elements b c same g w = tt
  elements_nest v n (element t ts) b c same g w =
      let there = sym g.joined ∙ same ∙ w.joined in
      let one = one_tree Legacy v one_legacy g.prefix w.prefix g.rest w.rest t t (plain_encodes v t g.prefix g.first) (within_encodes v n t w.prefix w.first) there in (
        within_nests v n t g.prefix g.first (subst (λ z. EncodesWithin v n z t) (sym one.0) w.first),
        elements_nest v n ts g.rest w.rest (same_rest g.prefix w.prefix g.rest w.rest one.0 there) g.second w.second,
      )

  entries_nest : (v : Version) (n : ℕ) (es : Entries) (b c : List ℕ) → b ≡ c → EncodesEntries NoLegacy v b es → EntriesWithin v n c es → EntriesNestWithin n es
  entries_nest v n no_entries b c same g w = tt
  entries_nest v n (entry k t es) b c same g w =
      let there = sym g.joined ∙ same ∙ w.joined in
      let key = (agree_key v k k).agree g.prefix w.prefix g.rest w.rest g.first w.first there in
      let value = same_rest g.prefix w.prefix g.rest w.rest key.0 there in
      let p = g.second in
      let q = w.second in
      let inner = sym p.joined ∙ value ∙ q.joined in
      let one = one_tree Legacy v one_legacy p.prefix q.prefix p.rest q.rest t t (plain_encodes v t p.prefix p.first) (within_encodes v n t q.prefix q.first) inner in (
        within_nests v n t p.prefix p.first (subst (λ z. EncodesWithin v n z t) (sym one.0) q.first),
        entries_nest v n es p.rest q.rest (same_rest p.prefix q.prefix p.rest q.rest one.0 inner) p.second q.second,
      )
