-- Documents that are read of the pairs that something gives.
use Rattle.std.specs.Prelude.{◌≡◌, ◌<◌, ℕ, Bool, true, false, Result, IfOk, IsErrOf, is_err}
use Rattle.tv_base.specs.Stop.{Counts}
use Rattle.tv_format.specs.Tree.{Tree, Document}
use Rattle.tv_reader.specs.declared.error.DeserializeError.{DeserializeError}
use Rattle.tv_reader.specs.declared.error.DeserializeError.TheVariants.{AlreadyFailed}
use Rattle.tv_typed.specs.Documents.{GivesAll}
use Rattle.tv_typed.specs.Typed.{document_stop}
use Rattle.tv_typed.specs.declared.document.DocumentDeserializer.{Ghosts}

-- these pairs are given, and then no more
abbrev pub IsGiven : {D : Type 0} → (D → ℕ × Tree → D → Type 0) → (D → ℕ) → D → Document → D → Type 0
IsGiven gives remaining first pairs last = GivesAll gives first pairs last × (remaining last ≡ 0)

-- no document is read: some pairs are given, and the next one, which is awaited, isn't read
-- into a heap after them
pub record PairsRefused {D : Type 0} (gives : D → ℕ × Tree → D → Type 0) (remaining : D → ℕ)
    (has_failed : D → Bool) (refuses_into : D → Document → DeserializeError → Type 0) (first : D)
    (error : DeserializeError) : Type 0 where
  pub pairs : Document
  pub last : D
  pub given : GivesAll gives first pairs last
  pub awaited : has_failed first ≡ false → 0 < remaining last
  pub refused : refuses_into last pairs error

-- The promise of a call that reads a document of the pairs that something gives.
--   found          It returns a document of all pairs that are given, where these are known.
--   marks_failure  Each error is marked in what gives the pairs, and nothing else is.
--   counts         It says that a read failed exactly where one did, with its kind.
--   closed         After an error that is marked it returns `AlreadyFailed`, and nothing is read.
--   same_reader    What is read from stays the same.
pub record ReadsGiven {D X : Type 0} (giver : Ghosts D) (holds : X → Document → Type 0) (old new : D)
    (result : Result X DeserializeError) : Type 0 where
  pub found : giver.is_known old → IfOk result
      (λ document. (pairs : Document) × holds document pairs
      × IsGiven giver.gives giver.remaining old pairs new)
  pub marks_failure : giver.has_failed new ≡ is_err result
  pub counts : giver.has_failed old ≡ false
      → Counts document_stop result (giver.failures old) (giver.failures new)
  pub closed : giver.has_failed old ≡ true
      → IsErrOf result AlreadyFailed × (giver.failures new ≡ giver.failures old)
  pub same_reader : giver.borrow_name new ≡ giver.borrow_name old
