-- What encodes parts encodes what they are traded for, and how many bytes open lists take at least.
use Rattle.std.proofs.Common.{◌≡◌, ℕ, ◌+◌, ◌*◌, ◌<◌, ◌≤◌, List, [], ◌∷◌, ◌++◌, length, map, IsUtf8, refl, sym, ◌∙◌, ap, subst, append_assoc, length-append, arith, inl, inr}
use Rattle.std.proofs.lemmas.List.{append-nil}
use Rattle.tv_base.specs.Number.{Groups, last, more, VNum}
use Rattle.tv_base.specs.Parts.{Then, Text, Each}
use Rattle.tv_format.specs.Encoding.{Key, Encodes, EncodesElements, EncodesEntries}
use Rattle.tv_format.specs.Tree.{Tree, leaf, array, object, Entries, elements, entries, element_count, entry_count}
use Rattle.tv_format.specs.Version.{Version, V1, V2, V3, entry_total}
use Rattle.tv_builder.specs.declared.kinds.BytesKind.{BytesKind}
use Rattle.tv_builder.specs.declared.kinds.BytesKind.TheVariants as kinds
use Rattle.tv_builder.specs.declared.kinds.ListKind.{ListKind}
use Rattle.tv_builder.specs.declared.kinds.ListKind.TheVariants as lists
use Rattle.tv_builder.specs.State.{OpenList, State, complete, in_lists, in_bytes, lists_of, children_of, list_parts, lists_parts, parts_of, list_head, children_parts, key_parts, value_parts, key_text}
use Rattle.tv_builder.specs.Prefix.{KeyHead, BytesHead, EncodesPart, Encoded}
use Rattle.tv_builder.specs.Parts.{Part, pair, value, bytes_head, some_bytes, entry_parts, bytes_part, IsContentOf, Rule, full_array, full_object, full_bytes, more_bytes, no_bytes, full_pair, Trades, same, by_rule}

pub each_append : {A : Type 0} (R : List ℕ → A → Type 0) (xs ys : List A) (a b : List ℕ) → Each R a xs → Each R b ys → Each R (a ++ b) (xs ++ ys)
each_append R [] ys a b p q = subst (λ z. Each R (z ++ b) ys) (sym p) q
each_append R (x ∷ xs) ys a b p q = record {
  prefix = p.prefix;
  rest = p.rest ++ b;
  joined = ap (λ z. z ++ b) p.joined ∙ append_assoc p.prefix p.rest b;
  first = p.first;
  second = each_append R xs ys p.rest b p.second q;
}

-- bytes that are cut in two
pub then_length : {P Q : List ℕ → Type 0} {whole : List ℕ} (p : Then P Q whole) → length whole ≡ length p.prefix + length p.rest
then_length p = ap length p.joined ∙ length-append p.prefix p.rest

pub each_split : {A : Type 0} (R : List ℕ → A → Type 0) (xs ys : List A) (whole : List ℕ) → Each R whole (xs ++ ys) → Then (λ b. Each R b xs) (λ b. Each R b ys) whole
each_split R [] ys whole p = record { prefix = []; rest = whole; joined = refl; first = refl; second = p }
each_split R (x ∷ xs) ys whole p =
    let r = each_split R xs ys p.rest p.second in
    record {
      prefix = p.prefix ++ r.prefix;
      rest = r.rest;
      joined = p.joined ∙ ap (λ z. p.prefix ++ z) r.joined ∙ sym (append_assoc p.prefix r.prefix r.rest);
      first = record { prefix = p.prefix; rest = r.prefix; joined = refl; first = p.first; second = r.first };
      second = r.second;
    }

text_from : (a b content : List ℕ) → b ≡ content → VNum a (length content) → IsUtf8 content → Text (a ++ b) content
text_from a b content e n u = record { sized = record { size = a; joined = ap (λ z. a ++ z) e; number = n }; utf8 = u }

module _ (Legacy : List ℕ → Entries → Type 0) (v : Version) where
  elements_from : (ts : List Tree) (whole : List ℕ) → Encoded Legacy v whole (map value ts) → EncodesElements Legacy v whole (elements ts)
  elements_from [] whole p = p
  elements_from (t ∷ ts) whole p = record { prefix = p.prefix; rest = p.rest; joined = p.joined; first = p.first; second = elements_from ts p.rest p.second }

  entries_from : (es : List (List ℕ × Tree)) (whole : List ℕ) → Encoded Legacy v whole (entry_parts es) → EncodesEntries Legacy v whole (entries es)
  entries_from [] whole p = p
  entries_from (e ∷ es) whole p =
      let q = p.second in
      record { prefix = p.prefix; rest = p.rest; joined = p.joined; first = p.first; second = record { prefix = q.prefix; rest = q.rest; joined = q.joined; first = q.first; second = entries_from es q.rest q.second } }

  pub elements_counted : (ts : List Tree) → element_count (elements ts) ≡ length ts
  elements_counted [] = refl
  elements_counted (t ∷ ts) = omega (arith, elements_counted ts)

  pub entries_counted : (es : List (List ℕ × Tree)) → entry_count (entries es) ≡ length es
  entries_counted [] = refl
  entries_counted (e ∷ es) = omega (arith, entries_counted es)

  one : (b : List ℕ) (p : Part) → EncodesPart Legacy v b p → Encoded Legacy v b (p ∷ [])
  one b p h = record { prefix = b; rest = []; joined = sym (append-nil b); first = h; second = refl }

  key_from : (w : Version) (a b content : List ℕ) → b ≡ content → KeyHead w a (length content) → IsUtf8 content → Key w (a ++ b) content
  key_from V1 a b content e h u = record { body = h.body ++ b; joined = ap (λ z. z ++ b) h.joined; encoded = text_from h.body b content e h.encoded u }
  key_from V2 a b content e h u = record { body = h.body ++ b; joined = ap (λ z. z ++ b) h.joined; encoded = text_from h.body b content e h.encoded u }
  key_from V3 a b content e h u = text_from a b content e h u

  bytes_from : (kind : BytesKind) (a b content : List ℕ) → b ≡ content → BytesHead v kind a (length content) → IsContentOf kind content → EncodesPart Legacy v (a ++ b) (bytes_part kind content)
  bytes_from kinds.Str a b content e h u = record { body = h.body ++ b; joined = ap (λ z. z ++ b) h.joined; encoded = text_from h.body b content e h.encoded u }
  bytes_from kinds.Facet a b content e h u = record { body = h.body ++ b; joined = ap (λ z. z ++ b) h.joined; encoded = text_from h.body b content e h.encoded u }
  bytes_from kinds.Bytes a b content e h u = record { body = h.body ++ b; joined = ap (λ z. z ++ b) h.joined; encoded = record { size = h.body; joined = ap (λ z. h.body ++ z) e; number = h.encoded } }
  bytes_from kinds.Key a b content e h u = key_from v a b content e h u

  rule_sound : (old new : List Part) (b : List ℕ) → Rule old new → Encoded Legacy v b old → Encoded Legacy v b new
  rule_sound _ _ b (full_array ts) p = one b (value (array (elements ts))) (record {
    body = p.first.body ++ p.rest;
    joined = p.joined ∙ ap (λ z. z ++ p.rest) p.first.joined;
    encoded = record { prefix = p.first.body; rest = p.rest; joined = refl; first = subst (λ m. VNum p.first.body m) (sym (elements_counted ts)) p.first.encoded; second = elements_from ts p.rest p.second };
  })
  rule_sound _ _ b (full_object es) p = one b (value (object (entries es))) (inl (record {
    body = p.first.body ++ p.rest;
    joined = p.joined ∙ ap (λ z. z ++ p.rest) p.first.joined;
    encoded = record {
      prefix = p.first.body;
      rest = p.rest;
      joined = refl;
      first = subst (λ m. VNum p.first.body (entry_total v m)) (sym (entries_counted es)) p.first.encoded;
      second = entries_from es p.rest p.second;
    };
  }))
  rule_sound _ _ b (full_bytes kind content is) p =
      let q = p.second in
      let rest : p.rest ≡ content = q.joined ∙ ap (λ z. q.prefix ++ z) q.second ∙ append-nil q.prefix ∙ q.first in
      one b (bytes_part kind content) (subst (λ z. EncodesPart Legacy v z (bytes_part kind content)) (sym p.joined) (bytes_from kind p.prefix p.rest content rest p.first is))
  rule_sound _ _ b (more_bytes x y) p =
      let q = p.second in
      one b (some_bytes (x ++ y)) (p.joined ∙ (λ i. p.first i ++ (q.joined ∙ (λ j. q.first j ++ q.second j) ∙ append-nil y) i))
  rule_sound _ _ b no_bytes p = record { prefix = []; rest = b; joined = refl; first = refl; second = p }
  rule_sound _ _ b (full_pair f t) p =
      let q = p.second in
      let rest : p.rest ≡ q.prefix = q.joined ∙ ap (λ z. q.prefix ++ z) q.second ∙ append-nil q.prefix in
      one b (pair f t) (record { prefix = p.prefix; rest = p.rest; joined = p.joined; first = p.first; second = subst (λ z. Encodes Legacy v z t) (sym rest) q.first })

  -- whatever encodes the first parts encodes the others
  pub trades_sound : (ps qs : List Part) (b : List ℕ) → Trades ps qs → Encoded Legacy v b ps → Encoded Legacy v b qs
  trades_sound ps qs b same h = h
  trades_sound ps qs b (by_rule prefix old new back rule is next) h =
      let R = EncodesPart Legacy v in
      let p = each_split R prefix (old ++ back) b (subst (λ z. Encoded Legacy v b z) is h) in
      let q = each_split R old back p.rest p.second in
      let r = each_append R new back q.prefix q.rest (rule_sound old new q.prefix rule q.first) q.second in
      let s = each_append R prefix (new ++ back) p.prefix (q.prefix ++ q.rest) p.first r in
      trades_sound (prefix ++ (new ++ back)) qs b next (subst (λ z. Encoded Legacy v z (prefix ++ (new ++ back))) (sym (p.joined ∙ ap (λ z. p.prefix ++ z) q.joined)) s)

  groups_take : {b : List ℕ} {n : ℕ} → Groups b n → 0 < length b
  groups_take (last l) = omega arith
  groups_take (more l h) = omega arith

  value_takes : (t : Tree) (b : List ℕ) → Encodes Legacy v b t → 0 < length b
  value_takes (leaf l) b h = omega (arith, ap length h.joined)
  value_takes (array ts) b h = omega (arith, ap length h.joined)
  value_takes (object es) b h = elim h [ inl p ↦ omega (arith, ap length p.joined) | inr p ↦ omega (arith, ap length p.joined) ]

  text_takes : (b content : List ℕ) → Text b content → 0 < length b
  text_takes b content h = omega (arith, ap length h.sized.joined, length-append h.sized.size content, groups_take h.sized.number.groups)

  key_takes : (w : Version) (b k : List ℕ) → Key w b k → 0 < length b
  key_takes V1 b k h = omega (arith, ap length h.joined)
  key_takes V2 b k h = omega (arith, ap length h.joined)
  key_takes V3 b k h = text_takes b k h

  mutual
    keys_take : (ts : List Tree) (b : List ℕ) → Encoded Legacy v b (key_parts ts) → length ts ≤ length b
    keys_take [] b h = omega arith
    keys_take (t ∷ ts) b h = omega (arith, key_takes v h.prefix (key_text t) h.first, values_take ts h.rest h.second, then_length h)

    values_take : (ts : List Tree) (b : List ℕ) → Encoded Legacy v b (value_parts ts) → length ts ≤ length b
    values_take [] b h = omega arith
    values_take (t ∷ ts) b h = omega (arith, value_takes t h.prefix h.first, keys_take ts h.rest h.second, then_length h)

  elements_take : (ts : List Tree) (b : List ℕ) → Encoded Legacy v b (map value ts) → length ts ≤ length b
  elements_take [] b h = omega arith
  elements_take (t ∷ ts) b h = omega (arith, value_takes t h.prefix h.first, elements_take ts h.rest h.second, then_length h)

  children_take : (kind : ListKind) (ts : List Tree) (b : List ℕ) → Encoded Legacy v b (children_parts kind ts) → length ts ≤ length b
  children_take lists.Array ts b h = elements_take ts b h
  children_take lists.Object ts b h = keys_take ts b h

  pub head_takes : (kind : ListKind) (n : ℕ) (b : List ℕ) → EncodesPart Legacy v b (list_head kind n) → 2 ≤ length b
  head_takes lists.Array n b h = omega (arith, ap length h.joined, groups_take h.encoded.groups)
  head_takes lists.Object n b h = omega (arith, ap length h.joined, groups_take h.encoded.groups)

  -- open lists and their finished children are paid for by bytes, whatever is announced
  list_paid : (l : OpenList) (b : List ℕ) → Encoded Legacy v b (list_parts l) → 2 + length l.children ≤ length b
  list_paid l b h = omega (arith, head_takes l.kind l.announced h.prefix h.first, children_take l.kind l.children h.rest h.second, then_length h)

  lists_paid : (ls : List OpenList) (b : List ℕ) → Encoded Legacy v b (lists_parts ls) → 2 * length ls + children_of ls ≤ length b
  lists_paid [] b h = omega arith
  lists_paid (l ∷ ls) b h =
      let p = each_split (EncodesPart Legacy v) (lists_parts ls) (list_parts l) b h in
      omega (arith, lists_paid ls p.prefix p.first, list_paid l p.rest p.second, then_length p)

  pub frames_paid : (s : State) (b : List ℕ) → Encoded Legacy v b (parts_of s) → 2 * length (lists_of s) + children_of (lists_of s) ≤ length b
  frames_paid (complete t) b h = omega arith
  frames_paid (in_lists ls) b h = lists_paid ls b h
  frames_paid (in_bytes ls kind n bs) b h =
      let p = each_split (EncodesPart Legacy v) (lists_parts ls) (bytes_head kind n ∷ some_bytes bs ∷ []) b h in
      omega (arith, lists_paid ls p.prefix p.first, then_length p)
