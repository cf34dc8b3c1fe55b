-- What a slice reads as.
use Rattle.std.proofs.Common.{◌≡◌, ℕ, Bool, true, false, cond, List, Option, Some, None, Result, Ok, Err, refl, sym, ap, ◌∙◌}
use Rattle.std.specs.Prelude.{IsUtf8, is_some}
use Rattle.std.specs.Str.{is_utf8}
use Rattle.std.proofs.lemmas.Str.{is_utf8-from_IsUtf8, IsUtf8-from_is_utf8}
use Rattle.std.proofs.lemmas.Option.{same_Some}
use Rattle.serde_json.specs.Data as json
use Rattle.serde_json.specs.Data.{Data, Members}
use Rattle.serde_json.specs.Find.{as_object}
use Rattle.serde_json.specs.Read.{read}
use Rattle.serde_json.specs.Written.{has_float}
use Rattle.tv_base.specs.declared.cause.Cause.{Cause}
use Rattle.tv_base.specs.declared.cause.Cause.TheVariants.{LegacyJson, LegacyFloat}
use Rattle.tv_value.specs.JsonTree.{json_tree, whole_entries}
use Rattle.tv_format.specs.Tree.{Tree, object}
use Rattle.tv_reader.specs.Legacy.{ReadsObject}
use Rattle.tv_reader.specs.LegacyReading.{whole_or_legacy_float, object_tree, slice_tree}

-- the answer for a slice, and why
pub data SliceAnswer (slice : List ℕ) (answer : Result Tree Cause) : Type 0 where
  is_object : (ms : Members) (t : Tree) → ReadsObject slice ms → json_tree (json.object ms) ≡ Some t → answer ≡ Ok t → SliceAnswer slice answer
  has_no_tree : (ms : Members) → ReadsObject slice ms → json_tree (json.object ms) ≡ None → answer ≡ Err LegacyFloat → SliceAnswer slice answer
  is_none : ((ms : Members) → ¬ (ReadsObject slice ms)) → answer ≡ Err LegacyJson → SliceAnswer slice answer

object_answer : (slice : List ℕ) (ms : Members) (o : Option Tree) → ReadsObject slice ms → json_tree (json.object ms) ≡ o → SliceAnswer slice (whole_or_legacy_float o)
object_answer slice ms (Some t) reads e = is_object ms t reads e refl
object_answer slice ms None reads e = has_no_tree ms reads e refl

data_answer : (slice : List ℕ) (d : Option Data) → IsUtf8 slice → read slice ≡ d → SliceAnswer slice (object_tree d)
data_answer slice (Some (json.object ms)) utf8 e = object_answer slice ms (json_tree (json.object ms)) (utf8, e) refl
data_answer slice (Some json.null) utf8 e = is_none (λ ms r. let q = sym e ∙ r.1 in absurd cc) refl
data_answer slice (Some (json.boolean b)) utf8 e = is_none (λ ms r. let q = sym e ∙ r.1 in absurd cc) refl
data_answer slice (Some (json.number n)) utf8 e = is_none (λ ms r. let q = sym e ∙ r.1 in absurd cc) refl
data_answer slice (Some (json.string s)) utf8 e = is_none (λ ms r. let q = sym e ∙ r.1 in absurd cc) refl
data_answer slice (Some (json.array ds)) utf8 e = is_none (λ ms r. let q = sym e ∙ r.1 in absurd cc) refl
data_answer slice None utf8 e = is_none (λ ms r. let q = sym e ∙ r.1 in absurd cc) refl

text_answer : (slice : List ℕ) (u : Bool) → is_utf8 slice ≡ u → SliceAnswer slice (cond u (object_tree (read slice)) (Err LegacyJson))
text_answer slice true e = data_answer slice (read slice) (IsUtf8-from_is_utf8 _ e) refl
text_answer slice false e = is_none (λ ms r. let q = sym e ∙ is_utf8-from_IsUtf8 _ r.0 in absurd cc) refl

pub slice_answer : (slice : List ℕ) → SliceAnswer slice (slice_tree slice)
unfolding slice_tree
slice_answer slice = text_answer slice (is_utf8 slice) refl

same_members : (slice : List ℕ) (m n : Members) → ReadsObject slice m → ReadsObject slice n → m ≡ n
same_members slice m n p q = let e = sym p.1 ∙ q.1 in cc

-- what is returned where the slice reads as an object
pub reads_tree : (slice : List ℕ) (ms : Members) (t : Tree) (answer : Result Tree Cause) → ReadsObject slice ms → json_tree (json.object ms) ≡ Some t → SliceAnswer slice answer → answer ≡ Ok t
reads_tree slice ms t answer reads e (is_object others u read tree is) =
    is ∙ ap (λ z. Ok z) (same_Some u t (sym tree ∙ ap (λ m. json_tree (json.object m)) (same_members slice others ms read reads) ∙ e))
reads_tree slice ms t answer reads e (has_no_tree others read tree is) =
    let q = sym tree ∙ ap (λ m. json_tree (json.object m)) (same_members slice others ms read reads) ∙ e in absurd cc
reads_tree slice ms t answer reads e (is_none none is) = absurd (none ms reads)

pub reads_float : (slice : List ℕ) (ms : Members) (answer : Result Tree Cause) → ReadsObject slice ms → json_tree (json.object ms) ≡ None → SliceAnswer slice answer → answer ≡ Err LegacyFloat
reads_float slice ms answer reads e (is_object others u read tree is) =
    let q = sym tree ∙ ap (λ m. json_tree (json.object m)) (same_members slice others ms read reads) ∙ e in absurd cc
reads_float slice ms answer reads e (has_no_tree others read tree is) = is
reads_float slice ms answer reads e (is_none none is) = absurd (none ms reads)

pub reads_none : (slice : List ℕ) (answer : Result Tree Cause) → ((ms : Members) → ¬ (ReadsObject slice ms)) → SliceAnswer slice answer → answer ≡ Err LegacyJson
reads_none slice answer none (is_object others u read tree is) = absurd (none others read)
reads_none slice answer none (has_no_tree others read tree is) = absurd (none others read)
reads_none slice answer none (is_none other is) = is

-- the tree of an object is an object
object_of : (ms : Members) (t : Tree) (float : Bool) → cond float None (Some (object (whole_entries ms))) ≡ Some t → t ≡ object (whole_entries ms)
object_of ms t true e = absurd cc
object_of ms t false e = sym (same_Some _ t e)

pub object_entries : (ms : Members) (t : Tree) → json_tree (json.object ms) ≡ Some t → t ≡ object (whole_entries ms)
object_entries ms t e = object_of ms t (has_float (json.object ms)) e

-- ---- what is found by reading a text

pub no_text : (slice : List ℕ) → ¬ (IsUtf8 slice) → slice_tree slice ≡ Err LegacyJson
no_text slice none = reads_none slice (slice_tree slice) (λ ms r. none r.0) (slice_answer slice)

pub no_json : (slice text : List ℕ) → text ≡ slice → read text ≡ None → slice_tree slice ≡ Err LegacyJson
no_json slice text same none = reads_none slice (slice_tree slice) (λ ms r. let q = sym none ∙ ap read same ∙ r.1 in absurd cc) (slice_answer slice)

pub other_json : (slice text : List ℕ) (d : Data) → text ≡ slice → read text ≡ Some d → is_some (as_object d) ≡ false → slice_tree slice ≡ Err LegacyJson
other_json slice text d same reads none =
    reads_none slice (slice_tree slice)
    (λ ms r. let is = same_Some d (json.object ms) (sym reads ∙ ap read same ∙ r.1) in let q = sym none ∙ ap (λ z. is_some (as_object z)) is in absurd cc)
    (slice_answer slice)

members_of : (d : Data) → is_some (as_object d) ≡ true → (ms : Members) × (d ≡ json.object ms)
members_of (json.object ms) e = (ms, refl)
members_of json.null e = absurd cc
members_of (json.boolean b) e = absurd cc
members_of (json.number n) e = absurd cc
members_of (json.string s) e = absurd cc
members_of (json.array ds) e = absurd cc

reads_members : (slice text : List ℕ) (d : Data) (ms : Members) → text ≡ slice → IsUtf8 slice → read text ≡ Some d → d ≡ json.object ms → ReadsObject slice ms
reads_members slice text d ms same utf8 reads is = (utf8, ap read (sym same) ∙ reads ∙ ap (λ z. Some z) is)

pub has_tree : (slice text : List ℕ) (d : Data) (t : Tree) → text ≡ slice → IsUtf8 slice → read text ≡ Some d → is_some (as_object d) ≡ true → json_tree d ≡ Some t → slice_tree slice ≡ Ok t
has_tree slice text d t same utf8 reads some tree =
    let m = members_of d some in
    reads_tree slice m.0 t (slice_tree slice) (reads_members slice text d m.0 same utf8 reads m.1) (ap json_tree (sym m.1) ∙ tree) (slice_answer slice)

pub has_float_in : (slice text : List ℕ) (d : Data) → text ≡ slice → IsUtf8 slice → read text ≡ Some d → is_some (as_object d) ≡ true → json_tree d ≡ None → slice_tree slice ≡ Err LegacyFloat
has_float_in slice text d same utf8 reads some none =
    let m = members_of d some in
    reads_float slice m.0 (slice_tree slice) (reads_members slice text d m.0 same utf8 reads m.1) (ap json_tree (sym m.1) ∙ none) (slice_answer slice)
