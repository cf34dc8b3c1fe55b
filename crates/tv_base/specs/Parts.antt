-- How parts make a whole: one after the other, after a code, after a length, or as many as are announced.
use Rattle.std.specs.Prelude.{◌≡◌, ℕ, List, [], ◌∷◌, ◌++◌, length, IsUtf8}
use Rattle.tv_base.specs.Number.{VNum, vnum}

-- Each list of bytes encodes one value at most, and none that encodes one begins another that does.
abbrev pub OneReading : {A : Type 0} → (List ℕ → A → Type 0) → Type 0
OneReading {A} R = (a b x y : List ℕ) (m n : A) → R a m → R b n → a ++ x ≡ b ++ y → (a ≡ b) × (m ≡ n)

-- a prefix is of some kind, and this is what follows it
pub record Begins (Holds : List ℕ → Type 0) (whole rest : List ℕ) : Type 0 where
  pub prefix : List ℕ
  pub joined : whole ≡ prefix ++ rest
  pub encoded : Holds prefix

-- bytes of one kind, and then bytes of another
pub record Then (Holds HoldsNext : List ℕ → Type 0) (whole : List ℕ) : Type 0 where
  pub prefix : List ℕ
  pub rest : List ℕ
  pub joined : whole ≡ prefix ++ rest
  pub first : Holds prefix
  pub second : HoldsNext rest

-- a code, and then bytes of some kind
pub record Behind (code : ℕ) (Holds : List ℕ → Type 0) (whole : List ℕ) : Type 0 where
  pub body : List ℕ
  pub joined : whole ≡ code ∷ body
  pub encoded : Holds body

-- a length, and then this many bytes
pub record Sized (whole content : List ℕ) : Type 0 where
  pub size : List ℕ
  pub joined : whole ≡ size ++ content
  pub number : VNum size (length content)

-- the same, where the bytes are UTF-8
pub record Text (whole content : List ℕ) : Type 0 where
  pub sized : Sized whole content
  pub utf8 : IsUtf8 content

-- the shortest encoding of bytes after their length, a text or not
abbrev pub short_sized : List ℕ → List ℕ
short_sized content = vnum (length content) ++ content

-- the items, one after the other
abbrev pub Each : {A : Type 0} → (List ℕ → A → Type 0) → List ℕ → List A → Type 0
Each R whole [] = whole ≡ []
Each R whole (x ∷ xs) = Then (λ b. R b x) (λ b. Each R b xs) whole

-- the number of the items, and then each
abbrev pub Counted : {A : Type 0} → (List ℕ → A → Type 0) → List ℕ → List A → Type 0
Counted R whole xs = Then (λ b. VNum b (length xs)) (λ b. Each R b xs) whole
