-- Where and why a text is no JSON object.
use Rattle.std.proofs.Common.{◌≡◌, ◌↔◌, ◌∙◌, sym, inl, inr, ℕ, List, length, true, Option, Some, None, IsSome, MatchOption, unwrap_or, refl, ap, subst}
use Rattle.std.proofs.lemmas.Bool.{cases_order}
use Rattle.serde_json.specs.Data.{Data}
use Rattle.serde_json.specs.Read.{read}
use Rattle.tv_json.proofs.FaultKinds.{of_syntax, IsFaultOf-of_syntax}
use Rattle.tv_json.specs.Faults.{IsFaultOf, IsSyntax}
use Rattle.tv_json.specs.LargeNumber.{IsFirstLargeNumber, NoLargeNumber}
use Rattle.tv_json.specs.declared.json_fault.JsonFault.{JsonFault}
use Rattle.tv_json.specs.declared.json_fault.JsonFaultKind.{JsonFaultKind}
use Rattle.tv_json.specs.declared.json_fault.JsonFaultKind.TheVariants as kind
use Rattle.tv_doc.specs.TextFault.{IsFault, IsNumberPlace, IsPlace, TellsFault}

place_of_syntax : (text : List ℕ) (fault : JsonFault) (k : JsonFaultKind) → of_syntax k ≡ true → IsFaultOf text fault → IsPlace text fault k
place_of_syntax text fault (kind.EndsEarly expected) e h = h
place_of_syntax text fault (kind.Unexpected expected) e h = h
place_of_syntax text fault kind.TooDeep e h = h
place_of_syntax text fault kind.NumberTooLarge e h = absurd (cc)
place_of_syntax text fault kind.NoObject e h = absurd (cc)

-- a text that other_kind read is not said to be JSON
none_is_read : (text : List ℕ) (k : JsonFaultKind) → read text ≡ None → ¬ (k ≡ kind.NoObject) → (k ≡ kind.NoObject) ↔ IsSome (read text)
none_is_read text k unread other = (λ e. absurd (other e), λ some. let no : IsSome {T = Data} None = subst (λ r. IsSome r) unread some in cc)

pub syntax_is_fault : (text : List ℕ) (fault : JsonFault) → read text ≡ None → IsFaultOf text fault → IsFault text fault
syntax_is_fault text fault unread h =
    let of = IsFaultOf-of_syntax text fault h in
    record { place = place_of_syntax text fault fault.kind of h; object = none_is_read text fault.kind unread (λ e. cc (ap of_syntax e)) }

-- a text with the syntax is read, unless a number in it is too large
abbrev pub ReadsSyntax : Type 0
ReadsSyntax = (text : List ℕ) → IsSyntax text → NoLargeNumber text → (value : Data) × (read text ≡ Some value)

-- a text with the syntax that isn't read has a number that is too large
number_place :
    ReadsSyntax → (text : List ℕ) (found : Option ℕ) → read text ≡ None → IsSyntax text → MatchOption found (IsSyntax text → NoLargeNumber text) (λ offset. IsFirstLargeNumber text offset) →
    IsNumberPlace text (unwrap_or found (length text))
number_place reads text None unread syntax h = let it = reads text syntax (h syntax) in absurd (cc (unread, it.1))
number_place reads text (Some offset) unread syntax h = (syntax, h)

pub number_is_fault :
    ReadsSyntax → (text : List ℕ) (found : Option ℕ) → read text ≡ None → IsSyntax text →
    MatchOption found (IsSyntax text → NoLargeNumber text) (λ offset. IsFirstLargeNumber text offset) →
    IsFault text (record { offset = unwrap_or found (length text); kind = kind.NumberTooLarge })
number_is_fault reads text found unread syntax h =
    record { place = number_place reads text found unread syntax h; object = none_is_read text kind.NumberTooLarge unread (λ e. cc) }

-- ---- a text has one fault

-- a fault by its kind
data Kind (text : List ℕ) (fault : JsonFault) : Type 0 where
  by_syntax : IsFaultOf text fault → ¬ (fault.kind ≡ kind.NoObject) → Kind text fault
  by_number : fault.kind ≡ kind.NumberTooLarge → IsNumberPlace text fault.offset → Kind text fault
  by_object : fault.kind ≡ kind.NoObject → fault.offset ≡ 0 → Kind text fault

kind_of : (text : List ℕ) (fault : JsonFault) (k : JsonFaultKind) → fault.kind ≡ k → IsPlace text fault k → Kind text fault
kind_of text fault (kind.EndsEarly expected) is place = by_syntax place (λ e. cc (is, e))
kind_of text fault (kind.Unexpected expected) is place = by_syntax place (λ e. cc (is, e))
kind_of text fault kind.TooDeep is place = by_syntax place (λ e. cc (is, e))
kind_of text fault kind.NumberTooLarge is place = by_number is place
kind_of text fault kind.NoObject is place = by_object is place

one_place : (text : List ℕ) (m n : ℕ) → IsFirstLargeNumber text m → IsFirstLargeNumber text n → m ≡ n
one_place text m n first second =
    elim (cases_order m n) [
      | inl same ↦ same
      | inr other ↦ elim other [ inl less ↦ absurd (second.first m less first.is_large) | inr more ↦ absurd (first.first n more second.is_large) ]
    ]

same_fault : (fault other : JsonFault) → fault.offset ≡ other.offset → fault.kind ≡ other.kind → fault ≡ other
same_fault fault other offset same = λ i. record { offset = offset i; kind = same i }

-- a fault whose kind says that the text is JSON, and one whose kind doesn't
not_both : (text : List ℕ) (fault other : JsonFault) → IsFault text fault → IsFault text other → fault.kind ≡ kind.NoObject → ¬ (other.kind ≡ kind.NoObject) → ⊥
not_both text fault other one also is other_kind = other_kind (also.object.1 (one.object.0 is))

-- a text goes wrong by its syntax in one way, and one that is JSON by its syntax in none
abbrev pub OneFault : Type 0
OneFault = (text : List ℕ) (fault other : JsonFault) → IsFaultOf text fault → IsFaultOf text other → fault ≡ other

abbrev pub NoFault : Type 0
NoFault = (text : List ℕ) (fault : JsonFault) → IsFaultOf text fault → ¬ (IsSyntax text)

module _ (one_fault : OneFault) (no_fault : NoFault) where
  kinds_alike : (text : List ℕ) (fault other : JsonFault) → IsFault text fault → IsFault text other → Kind text fault → Kind text other → fault ≡ other
  kinds_alike text fault other one also (by_syntax place other_kind) (by_syntax stands none) = one_fault text fault other place stands
  kinds_alike text fault other one also (by_syntax place other_kind) (by_number is stands) = absurd (no_fault text fault place stands.0)
  kinds_alike text fault other one also (by_syntax place other_kind) (by_object is zero) = absurd (not_both text other fault also one is other_kind)
  kinds_alike text fault other one also (by_number is stands) (by_syntax place other_kind) = absurd (no_fault text other place stands.0)
  kinds_alike text fault other one also (by_number is stands) (by_number so place) = same_fault fault other (one_place text fault.offset other.offset stands.1 place.1) (is ∙ sym so)
  kinds_alike text fault other one also (by_number is stands) (by_object so zero) = absurd (not_both text other fault also one so (λ e. cc (is, e)))
  kinds_alike text fault other one also (by_object is zero) (by_syntax place other_kind) = absurd (not_both text fault other one also is other_kind)
  kinds_alike text fault other one also (by_object is zero) (by_number so place) = absurd (not_both text fault other one also is (λ e. cc (so, e)))
  kinds_alike text fault other one also (by_object is zero) (by_object so nought) = same_fault fault other (zero ∙ sym nought) (is ∙ sym so)

  pub faults_alike : (text : List ℕ) (one other : Option JsonFault) → TellsFault text one → TellsFault text other → one ≡ other
  faults_alike text None None mine yours = refl
  faults_alike text None (Some fault) mine yours = absurd (yours.0 mine.0 mine.1)
  faults_alike text (Some fault) None mine yours = absurd (mine.0 yours.0 yours.1)
  faults_alike text (Some fault) (Some other) mine yours =
      ap Some (kinds_alike text fault other mine.1 yours.1 (kind_of text fault fault.kind refl mine.1.place) (kind_of text other other.kind refl yours.1.place))
