-- The block that was tested so far.
use Rattle.std.proofs.Common.{◌≡◌, ℕ, List, [], length, ◌∙◌, sym, ap, subst}
use Rattle.tv_base.specs.Source.{Failures}
use Rattle.tv_base.specs.Stop.{CountsStop}
use Rattle.tv_lines.specs.Checking.{IsBlock, RefusesBlock}
use Rattle.tv_format.specs.Version.{Version}
use Rattle.tv_store.specs.Projections.{EncodesBlockWithin, IsRefusedAt, limits_of, refused_stop}
use Rattle.tv_store.specs.declared.block.RefusedDocument.{RefusedDocument}
use Rattle.tv_store.specs.declared.limits.ReadLimits.{ReadLimits}
use Rattle.tv_store.specs.declared.projection.Projection.{Projection}
use Rattle.tv_store.specs.declared.projection.Projection.TheVariants.{All}
use Rattle.tv_store.proofs.BlocksSoFar.{ReadSoFar, whole_before}

module _ {v : Version} {projection : Projection} {block rest : List ℕ} {number start : ℕ} (m : ReadSoFar v (limits_of projection) block rest number start) {limits : ReadLimits} (all : projection ≡ All limits) where
  within_all : EncodesBlockWithin v limits m.before m.documents
  within_all = subst (λ (l : ReadLimits). EncodesBlockWithin v l m.before m.documents) (ap limits_of all) m.encoded

  -- nothing is left
  pub is_block : rest ≡ [] → IsBlock v limits block number
  is_block none = (m.documents, subst (λ (l : List ℕ). EncodesBlockWithin v limits l m.documents) (sym (whole_before m none)) within_all, m.counted)

  -- the next document is refused
  pub refuses_block : {left : List ℕ} {e : RefusedDocument} → e.document ≡ number → IsRefusedAt v projection rest left (length m.before) e → RefusesBlock v limits block left e
  refuses_block {left} {e} counted refused = record {
    before = m.before;
    behind = rest;
    joined = m.joined;
    documents = (m.documents, within_all, counted ∙ m.counted);
    refused = subst (λ (p : Projection). IsRefusedAt v p rest left (length m.before) e) all refused;
  }

-- ---- failures

-- what was before the step is what was at the beginning
pub counts_source : (e : RefusedDocument) {begun old : Failures} (new : Failures) → old ≡ begun → CountsStop (refused_stop e) old new → CountsStop (refused_stop e) begun new
counts_source e new same counts = subst (λ (f : Failures). CountsStop (refused_stop e) f new) same counts
