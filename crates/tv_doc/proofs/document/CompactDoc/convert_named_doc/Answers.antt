use Rattle.std.proofs.Common.{◌≡◌, ◌∷◌, map, ap, sym, subst, string_bytes, rules}
use Rattle.tv_value.specs.Owned.{owned_tree}
use Rattle.tv_schema.specs.Schema.{field_named}
use Rattle.tv_doc.specs.Named.{named_of}
use Rattle.tv_doc.specs.NamedPairs.{named_pairs, pairs_of_field}
use Rattle.tv_doc.proofs.ByName.{named_pair}
use Rattle.tv_doc.proofs.PairsSoFar.{PairsSoFar, no_pair_so_far, more_pairs, stops_behind, made_of_pairs}
use Rattle.tv_doc.proofs.NamedBack.{named_pairs_belong}
use Rattle.tv_doc.specs.Belongs.{Belongs}
use Rattle.tv_doc.proofs.document.CompactDoc.convert_named_doc.Goals as goal

pub returns-in-Err : goal.returns-in-Err
returns-in-Err c =
    let schema = c.args.schema.now in
    let left = named_pairs schema (map named_pair c.loop-name.name-iterator) in
    let ps = pairs_of_field (field_named schema (string_bytes c.in-Some.name.now)) (map owned_tree c.in-Some.values.now.items) in
    let others = named_pairs schema (map named_pair c.next.new.self) in
    let so_far = c.loop-name.invariant in
    let cut : c.loop-name.name-iterator ≡ (c.in-Some.name.now, c.in-Some.values.now) ∷ c.next.new.self = search rules in
    let stops = stops_behind (named_pairs schema (named_of c.args.named.now)) left ps others so_far.0 c.loop-name.document c.in-Err.refused so_far.2
    (ap (λ ns. named_pairs schema (map named_pair ns)) cut) (search rules) in
    record { makes = (c.in-Err.refused, c.from.ensures, (so_far.0, so_far.1, stops)); belongs = tt }

pub loop-name-init : goal.loop-name-init
loop-name-init c =
    let all = named_pairs c.args.schema.now (named_of c.args.named.now) in
    let start = c.new-document.result in
    let same : map named_pair c.into_iter-name-iterator.result ≡ named_of c.args.named.now = ap (map named_pair) (search rules) in (
      start,
      record { document = c.new-document.ensures.document; heap = c.new-document.ensures.heap },
      subst (λ ns. PairsSoFar all (named_pairs c.args.schema.now ns) start start) (sym same) (no_pair_so_far all start),
    )

pub loop-name-preserved : goal.loop-name-preserved
loop-name-preserved c =
    let schema = c.args.schema.now in
    let left = named_pairs schema (map named_pair c.loop-name.name-iterator) in
    let ps = pairs_of_field (field_named schema (string_bytes c.in-Some.name.now)) (map owned_tree c.in-Some.values.now.items) in
    let others = named_pairs schema (map named_pair c.next.new.self) in
    let so_far = c.loop-name.invariant in
    let cut : c.loop-name.name-iterator ≡ (c.in-Some.name.now, c.in-Some.values.now) ∷ c.next.new.self = search rules in (
      so_far.0,
      so_far.1,
      more_pairs (named_pairs schema (named_of c.args.named.now)) left ps others so_far.0 c.loop-name.document c.add_named.new.document so_far.2
          (ap (λ ns. named_pairs schema (map named_pair ns)) cut) (search rules),
    )

pub returns : goal.returns
returns c =
    let schema = c.args.schema.now in
    let l = c.loop-name in
    let all = named_pairs schema (named_of c.args.named.now) in
    let made = made_of_pairs all (named_pairs schema (map named_pair l.name-iterator)) l.invariant.0 l.document l.invariant.1 l.invariant.2
    (ap (λ ns. named_pairs schema (map named_pair ns)) c.in-None.ensures.steps.0) in
    record {
      makes = made;
      belongs = subst (Belongs schema) (sym made.0) (named_pairs_belong schema (λ name number at. c.names_are_of_one_field.ensures.named schema name number at) (named_of c.args.named.now));
    }
