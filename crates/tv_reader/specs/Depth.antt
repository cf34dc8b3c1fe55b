-- How many lists the bytes of a value open at once. A list is an array or an object. A legacy object isn't
-- counted, nor what it holds.
use Rattle.std.specs.Prelude.{◌≡◌, ◌<◌, ◌⊎◌, ℕ, zero, suc, List, [], ◌∷◌}
use Rattle.tv_base.specs.Number.{VNum}
use Rattle.tv_base.specs.Parts.{Then, Behind}
use Rattle.tv_reader.specs.Legacy.{Legacy}
use Rattle.tv_format.specs.Encoding.{Key, Encodes}
use Rattle.tv_format.specs.Tree.{Tree, leaf, array, object, Elements, no_elements, element, element_count}
use Rattle.tv_format.specs.Tree.{Entries, no_entries, entry, entry_count}
use Rattle.tv_format.specs.Version.{Version, entry_total}

-- The bytes encode the tree, and no more than this many lists are open at once in them.
module _ (v : Version) where
  abbrev mutual
    pub EncodesWithin : ℕ → List ℕ → Tree → Type 0
    EncodesWithin n whole (leaf l) = Encodes Legacy v whole (leaf l)
    EncodesWithin zero whole (array ts) = ⊥
    EncodesWithin (suc n) whole (array ts) = Behind 12
        (Then (λ b. VNum b (element_count ts)) (λ b. ElementsWithin n b ts)) whole
    EncodesWithin zero whole (object es) = Behind 8 (λ b. Legacy b es) whole
    EncodesWithin (suc n) whole (object es) =
        Behind 13 (Then (λ b. VNum b (entry_total v (entry_count es))) (λ b. EntriesWithin n b es)) whole
        ⊎ Behind 8 (λ b. Legacy b es) whole

    pub ElementsWithin : ℕ → List ℕ → Elements → Type 0
    ElementsWithin n whole no_elements = whole ≡ []
    ElementsWithin n whole (element t ts) = Then (λ b. EncodesWithin n b t) (λ b. ElementsWithin n b ts) whole

    pub EntriesWithin : ℕ → List ℕ → Entries → Type 0
    EntriesWithin n whole no_entries = whole ≡ []
    EntriesWithin n whole (entry k t es) = Then (λ b. Key v b k)
        (Then (λ b. EncodesWithin n b t) (λ b. EntriesWithin n b es)) whole

-- a key, and then bytes of some kind
abbrev pub BehindKey : Version → (List ℕ → Type 0) → List ℕ → Type 0
BehindKey version P whole = (k : List ℕ) × Then (λ b. Key version b k) P whole

-- of a number of elements some are whole and within a depth, and then bytes of some kind stand in the place
-- of the next
pub record AmongElements (version : Version) (depth : ℕ) (Holds : List ℕ → Type 0) (count : ℕ)
    (whole : List ℕ) : Type 0 where
  pub before : Elements
  pub fewer : element_count before < count
  pub parts : Then (λ b. ElementsWithin version depth b before) Holds whole

-- the same of entries
pub record AmongEntries (version : Version) (depth : ℕ) (Holds : List ℕ → Type 0) (count : ℕ)
    (whole : List ℕ) : Type 0 where
  pub before : Entries
  pub fewer : entry_count before < count
  pub parts : Then (λ b. EntriesWithin version depth b before) (BehindKey version Holds) whole

-- The bytes are the beginning of a value, up to the code that opens one list more than this many at once: at
-- 0 such a code alone; else the code and the number of a list, some of its children, and the same of the next
-- child, in which one list fewer may be open.
abbrev pub Opens : Version → ℕ → List ℕ → Type 0
Opens version zero whole = (whole ≡ 12 ∷ []) ⊎ (whole ≡ 13 ∷ [])
Opens version (suc n) whole =
    Behind 12 (λ b. (count : ℕ) × Then (λ c. VNum c count)
    (AmongElements version n (Opens version n) count) b) whole
    ⊎ Behind 13 (λ b. (count : ℕ) × Then (λ c. VNum c (entry_total version count))
    (AmongEntries version n (Opens version n) count) b) whole
