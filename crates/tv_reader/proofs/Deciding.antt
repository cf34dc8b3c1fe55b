-- With legacy objects, any bytes begin with a value or are malformed; so of documents.
use Rattle.std.proofs.Common.{◌⊎◌, ℕ, List, length, le_refl, inl, inr}
use Rattle.tv_base.specs.Source.{AllBytes}
use Rattle.tv_base.proofs.Deciding.{Decided, begins, malformed, Decides}
use Rattle.tv_reader.specs.Legacy.{Legacy, ErrorInLegacy}
use Rattle.tv_reader.specs.LegacyLaws.{BeginsLegacy, IsMalformed, BeginsValue, HasErrorInValue, DerivesDocument, HasErrorInDocument}
use Rattle.tv_reader.proofs.UniqueLegacy.{begins_or_malformed}
use Rattle.tv_format.specs.InputError.{ErrorInValue, ErrorInDocument}
use Rattle.tv_format.specs.Encoding.{Encodes, EncodesDocument}
use Rattle.tv_format.specs.Version.{Version}
use Rattle.tv_format.proofs.DecidingTrees.{decides_value, decides_document}

legacy : (bytes : List ℕ) → BeginsLegacy bytes ⊎ IsMalformed bytes → Decided Legacy ErrorInLegacy bytes
legacy bytes p = elim p [ inl q ↦ begins q.1 q.2.prefix q.0 q.2.joined q.2.encoded | inr q ↦ malformed q.0 q.1 ]

decides_legacy : (most : ℕ) → Decides most Legacy ErrorInLegacy
decides_legacy most = record { decides = λ bytes small le. legacy bytes (begins_or_malformed bytes small) }

value : (v : Version) (bytes : List ℕ) → Decided (Encodes Legacy v) (ErrorInValue Legacy ErrorInLegacy v) bytes → BeginsValue v bytes ⊎ HasErrorInValue v bytes
value v bytes (begins t prefix rest joined h) = inl (rest, t, record { prefix = prefix; joined = joined; encoded = h })
value v bytes (malformed r f) = inr (r, f)

pub value_or_error : (v : Version) (bytes : List ℕ) → AllBytes bytes → BeginsValue v bytes ⊎ HasErrorInValue v bytes
value_or_error v bytes small = value v bytes ((decides_value Legacy ErrorInLegacy v decides_legacy (length bytes)).decides bytes small (le_refl (length bytes)))

document : (v : Version) (bytes : List ℕ) → Decided (EncodesDocument Legacy v) (ErrorInDocument Legacy ErrorInLegacy v) bytes → DerivesDocument v bytes ⊎ HasErrorInDocument v bytes
document v bytes (begins d prefix rest joined h) = inl (d, record { prefix = prefix; rest = rest; joined = joined; encoded = h })
document v bytes (malformed r f) = inr (r, f)

pub document_or_error : (v : Version) (bytes : List ℕ) → AllBytes bytes → DerivesDocument v bytes ⊎ HasErrorInDocument v bytes
document_or_error v bytes small = document v bytes ((decides_document Legacy ErrorInLegacy v decides_legacy (length bytes)).decides bytes small (le_refl (length bytes)))
