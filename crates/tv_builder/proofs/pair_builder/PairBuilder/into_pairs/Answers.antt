use Rattle.std.proofs.Common.{rules}
use Rattle.tv_builder.proofs.PairBuilding.{end_built, end_fields}
use Rattle.tv_builder.proofs.pair_builder.PairBuilder.into_pairs.Goals as goal

pub invariant_of-result : goal.invariant_of-result
invariant_of-result c = let f = end_fields c.args.self _ c.truncate.ensures.items in record { document = f.document; bytes = f.bytes; fits = f.fits }

pub returns-clause-document : goal.returns-clause-document
returns-clause-document c =
    let cut = c.truncate.ensures.items in
    search (rules, end_built, cut)
