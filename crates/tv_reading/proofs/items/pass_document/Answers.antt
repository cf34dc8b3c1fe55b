use Rattle.std.proofs.Common.{[], ◌∷◌, refl, inl, inr, sym, subst}
use Rattle.std.proofs.lemmas.Result.{err_from_is_err_and}
use Rattle.tv_format.specs.InputError.{ErrorInDocument}
use Rattle.tv_reader.specs.Legacy.{Legacy, ErrorInLegacy}
use Rattle.tv_base.specs.Number.{VNum}
use Rattle.tv_reader.specs.Version.{version_of}
use Rattle.tv_reader.proofs.Finding.{finds_any, finds_fails}
use Rattle.tv_reading.specs.Skip.{IsDocumentEncoding}
use Rattle.tv_reading.specs.declared.items.ItemKind.TheVariants as kinds
use Rattle.tv_reading.proofs.Left.{so_many, left_ended, pairs_of, pair_errors}
use Rattle.tv_reading.proofs.Passing.{finds_after}
use Rattle.tv_reading.proofs.items.pass_document.Goals as goal

pub returns-in_err-left : goal.returns-in_err-left
returns-in_err-left g c =
    let p = err_from_is_err_and c.from_residual.result c.from_residual.ensures.1 in
    let v = version_of c.args.version in
    record { finds = rw (p.1, p.2) (finds_fails (λ b _. IsDocumentEncoding v b) (ErrorInDocument Legacy ErrorInLegacy v) (λ w r f. inl f) (finds_any (λ e n may. may.0) c.in_err-left.ensures.finds)) }

pub returns : goal.returns
returns g c =
    let v = version_of c.args.version in
    record {
      finds = finds_after (λ b _. IsDocumentEncoding v b) (ErrorInDocument Legacy ErrorInLegacy v) (left_ended v (so_many kinds.Pair c.in_ok-left.left ∷ []))
          (λ a b y number s. let q = pairs_of v _ b s in (q.0, record { prefix = a; rest = b; joined = refl; first = subst (VNum a) (sym q.1) number; second = q.2 }))
          (λ a w r number f. inr (_, record { prefix = a; rest = w; joined = refl; first = number; second = pair_errors v _ w r f }))
          c.in_ok-left.ensures.finds c.skip_items.ensures.finds;
    }
