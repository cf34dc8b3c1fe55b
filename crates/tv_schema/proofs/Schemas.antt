-- A schema with one more entry.
use Rattle.std.proofs.Common.{◌≡◌, ◌≢◌, ℕ, suc, zero, ◌+◌, ◌<◌, ◌≤◌, ◌^◌, Bool, true, false, cond, List, [], ◌∷◌, ◌++◌, length, get_or, Option, None, Some, refl, sym, ◌∙◌, ap, arith, add-zero, zero-add}
use Rattle.std.proofs.lemmas.List.{length-append}
use Rattle.std.proofs.lemmas.List.Elements.{All-push}
use Rattle.std.proofs.lemmas.List.Quantifiers.{all_pairs_push}
use Rattle.std.proofs.lemmas.Slice.Eq.{bytes_eq-Decides}
use Rattle.std.specs.List.{AllByRecursion}
use Rattle.std.specs.Str.{bytes_eq}
use Rattle.tv_field.specs.Entry.{Entry, IsValidName}
use Rattle.std.specs.Prelude.{String}
use Rattle.std.specs.HashMap.{HashMap, Updates, get_by_text}
use Rattle.std.specs.String.{string_bytes, string_eq}
use Rattle.std.specs.declared.alloc.Global.{Global}
use Rattle.std.specs.declared.hash.FoldHasher.{FoldHasher}
use Rattle.std.specs.declared.hash.BuildHasherDefault.{BuildHasherDefault}
use Rattle.std.proofs.lemmas.Map.Text.{hash_map_updates_text}
use Rattle.std.specs.Option.{option_or}
use Rattle.tv_schema.specs.Schema.{IsSchema, place_from, field_named}
use Rattle.tv_schema.specs.Table.{IsTable}

push_case : (b : Bool) (n m k : ℕ) (rest more last : Option ℕ) → n ≡ m → more ≡ option_or rest last → cond b (Some n) more ≡ option_or (cond b (Some n) rest) last
push_case true n m k rest more last same e = refl
push_case false n m k rest more last same e = e

pub place_from-push : (n : ℕ) (es : List Entry) (e : Entry) (q : List ℕ) → place_from n (es ++ e ∷ []) q ≡ option_or (place_from n es q) (cond (bytes_eq e.name q) (Some (n + length es)) None)
place_from-push n [] e q = rw add-zero refl
place_from-push n (d ∷ es) e q =
    let same : (n + 1) + length es ≡ n + suc (length es) = omega arith in
    push_case (bytes_eq d.name q) n n n (place_from (n + 1) es q) (place_from (n + 1) (es ++ e ∷ []) q) (cond (bytes_eq e.name q) (Some (n + suc (length es))) None) refl
    (place_from-push (n + 1) es e q ∙ ap (λ m. option_or (place_from (n + 1) es q) (cond (bytes_eq e.name q) (Some m) None)) same)

none_case : (b : Bool) (n : ℕ) (rest : Option ℕ) → cond b (Some n) rest ≡ None → (b ≡ false) × (rest ≡ None)
none_case true n rest e = cc
none_case false n rest e = (refl, e)

-- a name that isn't found is no entry's
pub place_from-absent : (n : ℕ) (es : List Entry) (q : List ℕ) → place_from n es q ≡ None → (k : ℕ) (d : Entry) → k < length es → (get_or es k d).name ≢ q
place_from-absent n [] q e k d h = absurd (omega arith)
place_from-absent n (x ∷ es) q e zero d h =
    λ same. let no = none_case (bytes_eq x.name q) n (place_from (n + 1) es q) e in
    let yes = (bytes_eq-Decides x.name q).1 same in cc
place_from-absent n (x ∷ es) q e (suc k) d h =
    place_from-absent (n + 1) es q (none_case (bytes_eq x.name q) n (place_from (n + 1) es q) e).1 k d (omega arith)

pub IsSchema-push : (es : List Entry) (e : Entry) → IsSchema es → IsValidName e.name → field_named es e.name ≡ None → length es + 1 < 2 ^ 32 → IsSchema (es ++ e ∷ [])
IsSchema-push es e is valid new few = record {
  valid = All-push (λ entry. IsValidName entry.name) es e is.valid valid;
  distinct = all_pairs_push (λ one other. one.name ≢ other.name) es e is.distinct (place_from-absent 0 es e.name new);
  in_32_bits = omega (arith, length-append es (e ∷ []));
}

-- a lookup among the old entries or at the new name, which none of them has
update_case : (old : Option ℕ) (b : Bool) (n : ℕ) → (b ≡ true → old ≡ None) → cond b (Some n) old ≡ option_or old (cond b (Some n) None)
update_case None b n new = refl
update_case (Some m) true n new = let no = new refl in cc
update_case (Some m) false n new = refl

-- names of any length are within a greater one
names_push : (old new : ℕ) (es : List Entry) (e : Entry) → old ≤ new → length e.name ≤ new → AllByRecursion (λ entry. length entry.name ≤ old) es → AllByRecursion (λ entry. length entry.name ≤ new) (es ++ e ∷ [])
names_push old new [] e more this all = (this, tt)
names_push old new (d ∷ es) e more this all = (omega (arith, all.0), names_push old new es e more this all.1)

module _ (m n : HashMap (String Global) ℕ (BuildHasherDefault FoldHasher)) (name : String Global) (field old_longest longest : ℕ) where
  pub IsTable-push : (es : List Entry) (e : Entry) → old_longest ≤ longest → length e.name ≤ longest → longest < 2 ^ 63 → IsTable es m old_longest → IsValidName e.name → field_named es e.name ≡ None → length es + 1 < 2 ^ 32 → string_bytes name ≡ e.name → field ≡ length es → Updates string_eq m n name (Some field) → IsTable (es ++ e ∷ []) n longest
  IsTable-push es e more this small is valid new few same number updates = record {
    schema = IsSchema-push es e is.schema valid new few;
    numbered = λ q. numbered-push q;
    names = names_push old_longest longest es e more this is.names;
    small = small;
  }
    where
      numbered-push : (q : List ℕ) → get_by_text n q ≡ field_named (es ++ e ∷ []) q
      numbered-push q =
          let old : get_by_text m q ≡ field_named es q = is.numbered q in
          let none : bytes_eq e.name q ≡ true → field_named es q ≡ None = λ t. ap (field_named es) (sym ((bytes_eq-Decides e.name q).0 t)) ∙ new in
          let after : get_by_text n q ≡ cond (bytes_eq (string_bytes name) q) (Some field) (get_by_text m q) = hash_map_updates_text (string_bytes name) m n (Some field) updates q in
          let there : cond (bytes_eq e.name q) (Some (length es)) (field_named es q) ≡ option_or (field_named es q) (cond (bytes_eq e.name q) (Some (length es)) None) = update_case (field_named es q) (bytes_eq e.name q) (length es) none in
          let push : field_named (es ++ e ∷ []) q ≡ option_or (field_named es q) (cond (bytes_eq e.name q) (Some (length es)) None) = rw zero-add at (place_from-push 0 es e q) in
          rw (same, number, old) at after ∙ there ∙ sym push
