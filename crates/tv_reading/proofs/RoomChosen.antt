-- What has come of the chosen pairs needs no more room than those of the whole document.
use Rattle.std.proofs.Common.{◌≡◌, ℕ, ◌+◌, ◌<◌, ◌≤◌, Bool, true, false, List, [], ◌∷◌, ◌++◌, length, refl, sym, ◌∙◌, ap, subst, append_assoc, arith}
use Rattle.tv_reader.proofs.Depths.{same_rest}
use Rattle.std.proofs.lemmas.Bool.{cond-true, cond-false}
use Rattle.tv_base.specs.Parts.{Each}
use Rattle.tv_base.proofs.Numbers.{one_number, one_fixed}
use Rattle.tv_builder.specs.Behind.{pairs_parts}
use Rattle.tv_builder.specs.Prefix.{EncodesPart}
use Rattle.tv_builder.specs.Parts.{field}
use Rattle.tv_builder.specs.State.{State, IsState, parts_of, state_room}
use Rattle.tv_heap.specs.Room.{document_room}
use Rattle.tv_heap.proofs.ListRooms.{document_room-cons}
use Rattle.tv_reader.specs.Legacy.{Legacy}
use Rattle.tv_reader.proofs.UniqueLegacy.{one_legacy}
use Rattle.tv_format.specs.Encoding.{EncodesPair, EncodesDocument}
use Rattle.tv_format.specs.Tree.{Tree, Document}
use Rattle.tv_format.specs.Version.{Version}
use Rattle.tv_format.proofs.Trees.{one_pair}
use Rattle.tv_value.specs.declared.field.Field.{Field}
use Rattle.tv_reading.proofs.RoomWithin.{both_cut, state_within}
use Rattle.tv_reading.specs.ChosenFields.{is_among, chosen, HasNoRoomChosen}

chosen-cons : (fields : List Field) (q : ℕ × Tree) (d : Document) → is_among fields q.0 ≡ true → chosen fields (q ∷ d) ≡ q ∷ chosen fields d
chosen-cons fields q d e = cond-true (is_among fields q.0) (q ∷ chosen fields d) (chosen fields d) e

chosen-skip : (fields : List Field) (q : ℕ × Tree) (d : Document) → is_among fields q.0 ≡ false → chosen fields (q ∷ d) ≡ chosen fields d
chosen-skip fields q d e = cond-false (is_among fields q.0) (q ∷ chosen fields d) (chosen fields d) e

-- what a pair adds, if it is chosen
chosen_room : (fields : List Field) (q : ℕ × Tree) (o d : Document) (more : ℕ) → document_room (chosen fields o) + more ≤ document_room (chosen fields d) → document_room (chosen fields (q ∷ o)) + more ≤ document_room (chosen fields (q ∷ d))
chosen_room fields q o d more within = by_test (is_among fields q.0) refl
  where
    by_test : (b : Bool) → is_among fields q.0 ≡ b → document_room (chosen fields (q ∷ o)) + more ≤ document_room (chosen fields (q ∷ d))
    by_test true e = omega (arith, within, ap document_room (chosen-cons fields q o e), ap document_room (chosen-cons fields q d e), document_room-cons q (chosen fields o), document_room-cons q (chosen fields d))
    by_test false e = omega (arith, within, ap document_room (chosen-skip fields q o e), ap document_room (chosen-skip fields q d e))

pairs_within : (v : Version) (fields : List Field) (o : Document) (f : ℕ) (st : State) (d : Document) (p x b y : List ℕ) → is_among fields f ≡ true → IsState st → length o < length d → Each (EncodesPart Legacy v) p (pairs_parts o ++ (field f ∷ parts_of st)) → p ++ x ≡ b ++ y → Each (EncodesPair Legacy v) b d
    → document_room (chosen fields o) + state_room st ≤ document_room (chosen fields d)
pairs_within v fields [] f st [] p x b y among is less h e s = absurd (omega (arith, less))
pairs_within v fields (q ∷ o) f st [] p x b y among is less h e s = absurd (omega (arith, less))
pairs_within v fields [] f st (r ∷ d) p x b y among is less h e s =
    let whole = both_cut p b h.prefix h.rest s.prefix s.rest x y h.joined s.joined e in
    let t = s.first in
    let all : h.prefix ++ (h.rest ++ x) ≡ t.prefix ++ (t.rest ++ (s.rest ++ y)) = whole ∙ ap (λ (z : List ℕ). z ++ (s.rest ++ y)) t.joined ∙ append_assoc t.prefix t.rest (s.rest ++ y) in
    let same = one_fixed 4 h.prefix t.prefix (h.rest ++ x) (t.rest ++ (s.rest ++ y)) f r.0 h.first t.first all in
    let within = state_within Legacy v one_legacy st h.rest x t.rest (s.rest ++ y) r.1 is h.second (same_rest h.prefix t.prefix (h.rest ++ x) (t.rest ++ (s.rest ++ y)) same.0 all) t.second in
    omega (arith, within, document_room-cons r (chosen fields d), ap document_room (chosen-cons fields r d (ap (is_among fields) (sym same.1) ∙ among)))
pairs_within v fields (q ∷ o) f st (r ∷ d) p x b y among is less h e s =
    let whole = both_cut p b h.prefix h.rest s.prefix s.rest x y h.joined s.joined e in
    let same = one_pair Legacy v one_legacy h.prefix s.prefix (h.rest ++ x) (s.rest ++ y) q r h.first s.first whole in
    let more = pairs_within v fields o f st d h.rest x s.rest y among is (omega (arith, less)) h.second (same_rest h.prefix s.prefix (h.rest ++ x) (s.rest ++ y) same.0 whole) s.second in
    subst (λ (z : ℕ × Tree). document_room (chosen fields (q ∷ o)) + state_room st ≤ document_room (chosen fields (z ∷ d))) same.1 (chosen_room fields q o d (state_room st) more)

-- where a prefix encodes a document whose chosen pairs have room
pub chosen_has_room : (v : Version) (fields : List Field) (whole prefix rest : List ℕ) (d : Document) → whole ≡ prefix ++ rest → EncodesDocument Legacy v prefix d → HasNoRoomChosen v fields whole → document_room (chosen fields d) ≤ 4294967295 → ⊥
chosen_has_room v fields whole prefix rest d joined encoded full small =
    let h = full.encoded in
    let cut = both_cut full.prefix prefix h.prefix h.rest encoded.prefix encoded.rest full.rest rest h.joined encoded.joined (sym full.joined ∙ joined) in
    let same = one_number h.prefix encoded.prefix (h.rest ++ full.rest) (encoded.rest ++ rest) full.announced (length d) h.first encoded.first cut in
    let within = pairs_within v fields full.finished full.number full.state d h.rest full.rest encoded.rest rest full.among full.is (omega (arith, full.less, same.1)) h.second (same_rest h.prefix encoded.prefix (h.rest ++ full.rest) (encoded.rest ++ rest) same.0 cut) encoded.second in
    omega (arith, full.no_room, small, within)
