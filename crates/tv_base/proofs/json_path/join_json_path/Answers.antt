use Rattle.std.proofs.Common.{rules, ◌≡◌, ◌∙◌, ◌++◌, ◌∷◌, [], map, take, sym, ap, append_assoc, arith, string_bytes, get_or, String, Global}
use Rattle.std.proofs.lemmas.List.{take_all}
use Rattle.std.proofs.lemmas.Simd.{map-map}
use Rattle.std.specs.List.{join_with_byte}
use Rattle.tv_base.specs.Escapes.{rewritten}
use Rattle.tv_base.specs.JsonPath.{expanded, joined}
use Rattle.tv_base.proofs.JsonPaths.{joined_with, joined_with-more, segment-is}
use Rattle.tv_base.proofs.json_path.join_json_path.Goals as goal

pub loop-segment-preserved : goal.loop-segment-preserved
loop-segment-preserved c =
    let expand = c.args.expand_dots in
    let others = c.in-Some.others.now in
    let i = c.loop-segment.segment-index in
    let first = string_bytes c.rewrite.new.out in
    let bytes = λ (segment : String Global). map (expanded expand) (string_bytes segment) in
    let item : String Global = c.segment-item.result in
    let separated : string_bytes c.push.new.self ≡ string_bytes c.loop-segment.text ++ 1 ∷ [] = search rules in
    let written : string_bytes c.rewrite-in-loop-segment.new.out ≡ string_bytes c.push.new.self ++ rewritten (λ u b. expanded expand b ∷ []) (string_bytes (get_or others i item)) = search rules in
    written
    ∙ ap (λ l. string_bytes c.push.new.self ++ l) (segment-is expand (string_bytes (get_or others i item)))
    ∙ ap (λ l. l ++ bytes (get_or others i item)) (separated ∙ ap (λ l. l ++ 1 ∷ []) c.loop-segment.invariant)
    ∙ append_assoc (joined_with first bytes others i) (1 ∷ []) (bytes (get_or others i item))
    ∙ sym (joined_with-more first bytes others i item (omega arith))

pub returns : goal.returns
returns c =
    let expand = c.args.expand_dots in
    let others = c.in-Some.others.now in
    let first = c.in-Some.first.now in
    let bytes = λ (segment : String Global). map (expanded expand) (string_bytes segment) in
    let written : string_bytes c.rewrite.new.out ≡ rewritten (λ u b. expanded expand b ∷ []) (string_bytes first) = search rules in
    let whole : c.args.segments.now ≡ first ∷ others = search rules in
    c.loop-segment.invariant
    ∙ ap (λ n. join_with_byte 1 (n ∷ map bytes (take c.loop-segment.segment-index others))) (written ∙ segment-is expand (string_bytes first))
    ∙ ap (λ l. join_with_byte 1 (bytes first ∷ map bytes l)) (take_all c.loop-segment.segment-index others (omega arith))
    ∙ ap (λ l. join_with_byte 1 (bytes first ∷ l)) (sym (map-map (map (expanded expand)) string_bytes others))
    ∙ ap (λ l. joined expand (map string_bytes l)) (sym whole)
