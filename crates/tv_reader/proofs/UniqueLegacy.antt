-- Legacy objects have one reading, and one error at most where they have none.
use Rattle.std.proofs.Common.{◌≡◌, ◌⊎◌, ℕ, List, ◌++◌, Result, Ok, Err, refl, sym, ap, ◌∙◌, inl, inr}
use Rattle.tv_base.specs.declared.cause.Cause.{Cause}
use Rattle.tv_base.specs.Parts.{OneReading}
use Rattle.tv_base.specs.Source.{AllBytes}
use Rattle.tv_base.proofs.Agrees.{one_encoding, err_is, no_ok}
use Rattle.tv_base.proofs.Excluding.{Excludes}
use Rattle.tv_base.proofs.Single.{Single}
use Rattle.tv_format.specs.Tree.{Tree, object, Entries}
use Rattle.tv_reader.specs.Legacy.{Legacy, ErrorInLegacy}
use Rattle.tv_reader.specs.LegacyLaws.{BeginsLegacy, IsMalformed}
use Rattle.tv_reader.specs.LegacyReading.{legacy_at}
use Rattle.tv_reader.proofs.AgreeLegacy.{LegacyTree, legacy_agrees, legacy_refused}

tree_of : (whole : List ℕ) (entries : Entries) → Legacy whole entries → LegacyTree whole (object entries)
tree_of whole entries h = record { entries = entries; encoded = h; is = refl }

same_entries : (m n : Entries) → object m ≡ object n → m ≡ n
same_entries m n e = cc

pub one_legacy : OneReading Legacy
one_legacy a b x y m n p q e =
    let same = one_encoding legacy_agrees a b x y (object m) (object n) (tree_of a m p) (tree_of b n q) e in
    (same.0, same_entries m n same.1)

excluded : (entries : Entries) (whole a x : List ℕ) (c : Cause) → ErrorInLegacy whole c → Legacy a entries → whole ≡ a ++ x → ⊥
excluded entries whole a x c f p e =
    let q = legacy_refused whole c f in
    no_ok (c, q.0) (object entries, x) (sym q.1 ∙ ap legacy_at e ∙ legacy_agrees.complete a (object entries) x (tree_of a entries p))

pub legacy_excludes : (entries : Entries) → Excludes ErrorInLegacy (λ b. Legacy b entries)
legacy_excludes entries = record { excludes = excluded entries }

one_cause : (whole : List ℕ) (c d : Cause) → ErrorInLegacy whole c → ErrorInLegacy whole d → c ≡ d
one_cause whole c d f g =
    let p = legacy_refused whole c f in
    let q = legacy_refused whole d g in
    ap (λ z. z.0) (err_is (Tree × List ℕ) (c, p.0) (d, q.0) (sym p.1 ∙ q.1))

pub single_legacy : Single ErrorInLegacy
single_legacy = record { single = one_cause }

begins : (bytes : List ℕ) (r : Result (Tree × List ℕ) (Cause × List ℕ)) → AllBytes bytes → legacy_at bytes ≡ r → BeginsLegacy bytes ⊎ IsMalformed bytes
begins bytes (Ok x) small e =
    let p = legacy_agrees.sound bytes x small e in
    inl (x.1, p.1.entries, record { prefix = p.0; joined = p.2; encoded = p.1.encoded })
begins bytes (Err x) small e = inr (x.0, legacy_agrees.refused bytes x.0 x.1 small e)

pub begins_or_malformed : (bytes : List ℕ) → AllBytes bytes → BeginsLegacy bytes ⊎ IsMalformed bytes
begins_or_malformed bytes small = begins bytes (legacy_at bytes) small refl
