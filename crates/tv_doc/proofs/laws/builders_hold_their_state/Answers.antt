use Rattle.std.proofs.Common.{◌≡◌, Some, sym, ◌∙◌, ap, subst, arith}
use Rattle.std.proofs.Math.Logic.{∥∥₁_map}
use Rattle.tv_heap.specs.declared.value_type.Place.{Place}
use Rattle.tv_heap.specs.Reads.{ReadsTree}
use Rattle.tv_heap.specs.TypeCode.{type_code}
use Rattle.tv_builder.specs.Given.{Given}
use Rattle.tv_builder.specs.Image.{held, image_of}
use Rattle.tv_builder.specs.Shows.{ShowsState}
use Rattle.tv_builder.specs.State.{complete}
use Rattle.tv_builder.specs.TreeBytes.{tree_place}
use Rattle.tv_builder.proofs.PairBuilding.{heap_behind, heap_within, kept_room}
use Rattle.tv_doc.specs.Builder.{kept_heap, heap_so_far}
use Rattle.tv_doc.proofs.laws.builders_hold_their_state.Goals as goal

pub returns : goal.returns
returns c = λ b. record {
  kept = b.builder.bytes;
  bytes = heap_behind (kept_heap b) b.builder.building b.builder.state;
  reads = λ t e. ∥∥₁_map b.builder.state.1 (λ p.
      let base = kept_heap b in
      let shown : ShowsState b.builder.building (complete t) = subst (ShowsState b.builder.building) e p.shows in
      let drawn : held b.builder.building ≡ image_of base (complete t) = p.image ∙ ap (λ s. image_of base s) e in
      let whole : Some shown.at.at ≡ Some (tree_place base t) = sym shown.at.is ∙ ap (λ (g : Given). g.complete) drawn in
      let same : shown.at.at ≡ tree_place base t = cc in
      subst (λ (q : Place). ReadsTree (heap_so_far b) (type_code q.value_type) q.address t) same shown.at.placed.reads);
  room = omega (arith, heap_within b.builder, kept_room b.builder);
}
