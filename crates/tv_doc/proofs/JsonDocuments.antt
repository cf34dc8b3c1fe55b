-- Values that are added one after the other.
use Rattle.std.proofs.Common.{◌≡◌, ℕ, List, [], ◌∷◌, ◌++◌, Option, Some, None, Result, Ok, Err, subst, refl, sym, ap, ◌∙◌, append_assoc, append-nil}
use Rattle.std.specs.Prelude.{◌≢◌}
use Rattle.std.specs.Option.{IfSome}
use Rattle.serde_json.specs.Data.{Members, object}
use Rattle.serde_json.specs.Read.{read}
use Rattle.tv_field.specs.Entry.{Entry}
use Rattle.tv_field.specs.JsonAnswer.{refusal_of, TakesMemory}
use Rattle.tv_field.specs.declared.json_value.JsonRefusal.{JsonRefusal}
use Rattle.tv_field.specs.declared.json_value.JsonRefusal.TheVariants as refusal
use Rattle.tv_field.specs.JsonTable.{Table}
use Rattle.tv_format.specs.Tree.{Tree, Document}
use Rattle.tv_doc.specs.AdditionError.{addition_error}
use Rattle.tv_doc.specs.Additions.{Accepts, IsEmpty}
use Rattle.tv_doc.specs.Document.{IsUnchanged, RefusesAddition}
use Rattle.tv_doc.specs.InPlace.{in_place}
use Rattle.tv_doc.specs.JsonObject.{FieldJson, Pairs, IsRefused, RefusesRow, StopsAt, IsValueError, MakesDocument, Parses, ParsesOrTells, AddsFieldValues, AddsOrTells, AddsValues, object_values}
use Rattle.tv_doc.specs.JsonObject.IsShort.{for_pair, for_value, for_error}
use Rattle.tv_builder.specs.declared.errors.AddError.{AddError}
use Rattle.tv_builder.specs.declared.errors.AddError.TheVariants.{HeapFull, Memory}
use Rattle.tv_doc.specs.declared.errors.DocParsingError.{DocParsingError}
use Rattle.tv_doc.specs.declared.errors.DocParsingError.TheVariants as error
use Rattle.tv_doc.specs.declared.document.CompactDoc.{CompactDoc}
use Rattle.tv_doc.proofs.Additions.{unchanged_same, each_from, each_append, each_one, from_empty, made_of}

-- an addition that a document refuses
pub refused_addition : (v : FieldJson) (d : CompactDoc) (t : Tree) (e : AddError) → Table v.field_type v.value (Ok t) → RefusesAddition d t e → IsRefused v d (addition_error e)
refused_addition v d t HeapFull table why = (t, table, why)
refused_addition v d t Memory table why = for_pair t table why

-- one that is refused for want of room
pub full_row : (v : FieldJson) (d : CompactDoc) (e : AddError) → IsRefused v d (error.Add e) → RefusesRow v d HeapFull
full_row v d HeapFull h = h
full_row v d Memory h = absurd h

-- a value that its field's type refuses, or for which memory is refused
short_value : (v : FieldJson) (d : CompactDoc) (r : JsonRefusal) → IfSome (refusal_of v.value r) (λ x. Table v.field_type v.value (Err x))
    → (r ≡ refusal.Memory → TakesMemory v.field_type v.value) → IsRefused v d error.Memory
short_value v d (refusal.Overflow expected) h short = for_error _ h
short_value v d (refusal.Mismatch expected) h short = for_error _ h
short_value v d (refusal.Parse cause) h short = for_error _ h
short_value v d refusal.InvalidBase64 h short = for_error _ h
short_value v d refusal.FloatNumber h short = for_error _ h
short_value v d refusal.Memory h short = for_value (short refl)

pub refused_value : (v : FieldJson) (d : CompactDoc) (r : JsonRefusal) (e : DocParsingError) → IsValueError v.name v.value r e
    → IfSome (refusal_of v.value r) (λ x. Table v.field_type v.value (Err x)) → (r ≡ refusal.Memory → TakesMemory v.field_type v.value) → IsRefused v d e
refused_value v d r (error.ValueError copy e) (refusal, named, is, for) h short =
    (refusal, named, is, subst (λ o. IfSome o (λ x. Table v.field_type v.value (Err x))) for h)
refused_value v d r (error.Add e) wrong h short = absurd wrong
refused_value v d r (error.InvalidJson text) wrong h short = absurd wrong
refused_value v d r error.Memory right h short = short_value v d r h short

none_added : (d : CompactDoc) → AddsFieldValues [] d d
none_added d = record { pairs = []; by_table = refl; adds = unchanged_same d }

-- a value alone that is refused
pub stops_at_one : (v : FieldJson) (old : CompactDoc) (e : DocParsingError) → IsRefused v old e → StopsAt (v ∷ []) old e
stops_at_one v old e h = record { before = []; at = v; behind = []; joined = refl; mid = old; added = none_added old; refused = h }

-- a value alone whose pair is added
pub one_added : (v : FieldJson) (old new : CompactDoc) (t : Tree) → Table v.field_type v.value (Ok t) → Accepts old new v.field t → AddsFieldValues (v ∷ []) old new
one_added v old new t table adds =
    record { pairs = (v.field, t) ∷ []; by_table = (t, [], table, refl, refl); adds = each_one v.field t old new adds }

Pairs-append : (vs ws : List FieldJson) (ps qs : Document) → Pairs vs ps → Pairs ws qs → Pairs (vs ++ ws) (ps ++ qs)
Pairs-append [] ws ps qs none h = subst (λ prefix. Pairs ws (prefix ++ qs)) (sym none) h
Pairs-append (v ∷ vs) ws ps qs (tree, rest, table, joined, others) h =
    (tree, rest ++ qs, table, ap (λ prefix. prefix ++ qs) joined, Pairs-append vs ws rest qs others h)

both_added : (vs ws : List FieldJson) (a b c : CompactDoc) → AddsFieldValues vs a b → AddsFieldValues ws b c → AddsFieldValues (vs ++ ws) a c
both_added vs ws a b c h k = record {
  pairs = h.pairs ++ k.pairs;
  by_table = Pairs-append vs ws h.pairs k.pairs h.by_table k.by_table;
  adds = each_append h.pairs k.pairs a b c h.adds k.adds;
}

-- additions to what an unchanged document became

added_from : (vs : List FieldJson) (old mid new : CompactDoc) → IsUnchanged old mid → AddsFieldValues vs mid new → AddsFieldValues vs old new
added_from vs old mid new same h = record { pairs = h.pairs; by_table = h.by_table; adds = each_from h.pairs old mid new same h.adds }

pub told_from : (vs : List FieldJson) (old mid new : CompactDoc) (r : Option (Unit {0})) (reason : Option DocParsingError) → IsUnchanged old mid → AddsOrTells vs mid new r reason → AddsOrTells vs old new r reason
told_from vs old mid new (Some x) reason same h = added_from vs old mid new same h
told_from vs old mid new None (Some e) same h = λ other.
    let s = h other in
    record { before = s.before; at = s.at; behind = s.behind; joined = s.joined; mid = s.mid; added = added_from s.before old mid s.mid same s.added; refused = s.refused }
told_from vs old mid new None None same h = h

-- the pairs of these values are added, and then come the rest
pub record SoFar (all rest : List FieldJson) (old now : CompactDoc) : Type 0 where
  pub done : List FieldJson
  pub joined : all ≡ done ++ rest
  pub added : AddsFieldValues done old now

pub none_so_far : (all : List FieldJson) (old : CompactDoc) → SoFar all all old old
none_so_far all old = record { done = []; joined = refl; added = none_added old }

pub more_so_far : (all rest values others : List FieldJson) (old now next : CompactDoc) → SoFar all rest old now → rest ≡ values ++ others → AddsFieldValues values now next → SoFar all others old next
more_so_far all rest values others old now next s parted h = record {
  done = s.done ++ values;
  joined = s.joined ∙ ap (λ vs. s.done ++ vs) parted ∙ sym (append_assoc s.done values others);
  added = both_added s.done values old now next s.added h;
}

pub all_so_far : (all rest : List FieldJson) (old now : CompactDoc) → SoFar all rest old now → rest ≡ [] → AddsFieldValues all old now
all_so_far all rest old now s none =
    let whole : s.done ≡ all = sym (s.joined ∙ ap (λ vs. s.done ++ vs) none ∙ append-nil s.done) in
    subst (λ vs. AddsFieldValues vs old now) whole s.added

pub stops_later : (all rest values others : List FieldJson) (old now : CompactDoc) (e : DocParsingError) → SoFar all rest old now → rest ≡ values ++ others → StopsAt values now e
    → StopsAt all old e
stops_later all rest values others old now e s parted h = record {
  before = s.done ++ h.before;
  at = h.at;
  behind = h.behind ++ others;
  joined = s.joined ∙ ap (λ vs. s.done ++ vs) (parted ∙ ap (λ vs. vs ++ others) h.joined ∙ append_assoc h.before (h.at ∷ h.behind) others) ∙ sym (append_assoc s.done h.before (h.at ∷ (h.behind ++ others)));
  mid = h.mid;
  added = both_added s.done h.before old now h.mid s.added h.added;
  refused = h.refused;
}

pub told_later : (all rest values others : List FieldJson) (old now new : CompactDoc) (reason : Option DocParsingError) → SoFar all rest old now → rest ≡ values ++ others
    → AddsOrTells values now new None reason → AddsOrTells all old new None reason
told_later all rest values others old now new (Some e) s parted h = λ other. stops_later all rest values others old now e s parted (h other)
told_later all rest values others old now new None s parted h = h

-- ---- whole documents

pub makes_document : (values : List FieldJson) (start made : CompactDoc) → IsEmpty start → AddsFieldValues values start made → MakesDocument values (Ok made)
makes_document values start made none h =
    (subst (λ d. Pairs values d) (sym (from_empty h.pairs start made none h.adds)) h.by_table, made_of h.pairs start made none h.adds)

-- why no document is made of an object that is read
stopped : (schema : List Entry) (text : List ℕ) (ms : Members) (start : CompactDoc) (e : DocParsingError) → read text ≡ Some (object ms) → IsEmpty start
    → (e ≢ error.Memory → StopsAt (object_values schema ms) start e) → Parses schema text (Err e)
stopped schema text ms start (error.InvalidJson from) is none h = absurd (h (λ same. cc)).refused
stopped schema text ms start (error.ValueError name e) is none h = (ms, is, (start, none, h (λ same. cc)))
stopped schema text ms start (error.Add refused) is none h = (ms, is, (start, none, h (λ same. cc)))
stopped schema text ms start error.Memory is none h = tt

-- an object that is read, and the document that is made of it in an empty one
pub parses_object : (schema : List Entry) (text : List ℕ) (ms : Members) (start made : CompactDoc) (r : Result (Unit {0}) DocParsingError) → read text ≡ Some (object ms) → IsEmpty start
    → AddsValues (object_values schema ms) start made r → Parses schema text (in_place r made)
parses_object schema text ms start made (Ok x) is none h = (ms, is, makes_document (object_values schema ms) start made none h)
parses_object schema text ms start made (Err e) is none h = stopped schema text ms start e is none (λ other. h)

pub told_object : (schema : List Entry) (text : List ℕ) (ms : Members) (start made : CompactDoc) (r : Option (Unit {0})) (reason : Option DocParsingError) → read text ≡ Some (object ms) → IsEmpty start
    → AddsOrTells (object_values schema ms) start made r reason → ParsesOrTells schema text made r reason
told_object schema text ms start made (Some x) reason is none h = (ms, is, makes_document (object_values schema ms) start made none h)
told_object schema text ms start made None (Some e) is none h = stopped schema text ms start e is none h
told_object schema text ms start made None None is none h = absurd h
