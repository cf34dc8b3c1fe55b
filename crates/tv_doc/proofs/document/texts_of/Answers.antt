use Rattle.std.proofs.Common.{◌≡◌, ◌++◌, ◌∷◌, [], ℕ, String, Global, string_bytes, List, map, rules, append-nil, sym, ap, subst, ◌∙◌}
use Rattle.tv_format.specs.Tree.{Document}
use Rattle.tv_heap.specs.Value.{tree_of}
use Rattle.tv_value.specs.declared.field.Field.{Field}
use Rattle.tv_doc.specs.Document.{document_of}
use Rattle.tv_doc.specs.FieldValues.{pairs_left}
use Rattle.tv_doc.specs.SameTexts.{IsSameSet, field_texts, json_text, text_seen, texts_seen}
use Rattle.tv_doc.proofs.FieldTexts.{text_moved}
use Rattle.tv_doc.proofs.document.texts_of.Goals as goal

pub loop-field-preserved : goal.loop-field-preserved
loop-field-preserved c =
    let k : Field × String Global = (c.in-Some.field, c.push_json.new.text) in
    let tree = tree_of c.in-Some.value in
    let ks = c.loop-field.texts.keys in
    let rest = field_texts (pairs_left c.next.new.self) in
    let whole = field_texts (document_of c.args.document.now) in
    let cut : pairs_left c.loop-field.field-iterator ≡ (c.in-Some.field.id, tree) ∷ pairs_left c.next.new.self = search rules in
    let text : string_bytes c.push_json.new.text ≡ json_text tree = c.in_ok-push_json.ensures.ok ∙ ap (λ (l : List ℕ). l ++ json_text tree) c.new-text.ensures.bytes in
    let seen : text_seen k ≡ (c.in-Some.field.id, json_text tree) = λ i. (c.in-Some.field.id, text i) in
    let first : field_texts (pairs_left c.loop-field.field-iterator) ≡ text_seen k ∷ rest = ap field_texts cut ∙ ap (λ p. p ∷ rest) (sym seen) in
    let before : IsSameSet (map text_seen ks ++ text_seen k ∷ rest) whole = subst (λ l. IsSameSet (map text_seen ks ++ l) whole) first c.loop-field.invariant in
    subst (λ (l : List (Field × String Global)). IsSameSet (map text_seen l ++ rest) whole) (sym c.in_ok-_added.ensures.keys) (text_moved k ks rest whole before)

pub returns : goal.returns
returns c =
    let seen = texts_seen c.loop-field.texts in
    let none : ◌≡◌ {A = Document} (pairs_left c.loop-field.field-iterator) [] = search rules in
    let all : seen ++ field_texts (pairs_left c.loop-field.field-iterator) ≡ seen = ap (λ (d : Document). seen ++ field_texts d) none ∙ append-nil seen in
    subst (λ l. IsSameSet l (field_texts (document_of c.args.document.now))) all c.loop-field.invariant
