use Rattle.std.proofs.Common.{rules}
use Rattle.std.proofs.lemmas.Fn.{dedup_same}
use Rattle.std.specs.Prelude.{bytes_eq}
use Rattle.tv_indexing.specs.TermPlaces.{bytes_at}
use Rattle.tv_indexing.proofs.term_list.dedup_places.Goals as goal

pub returns : goal.returns
returns c =
    dedup_same _ (λ x y. bytes_eq (bytes_at c.args.bytes.now x) (bytes_at c.args.bytes.now y)) _ (λ x y b f x' y' k. search rules) _ _ c.dedup_by.ensures.filtered
