-- How deep a value of any type nests that is read through a reader with a limit. The code of the
-- value was read before.
use Rattle.std.specs.Prelude.{◌≡◌, ◌≢◌, ◌<◌, false, true, ℕ, zero, suc, List, ◌++◌, length, Option, Result}
use Rattle.std.specs.Prelude.{IfOk, IsOk, IsErrOf}
use Rattle.tv_base.specs.declared.source.ByteSource.{Ghosts}
use Rattle.tv_base.specs.Number.{Fixed}
use Rattle.tv_base.specs.Parts.{Begins, Each}
use Rattle.tv_format.specs.Tree.{Tree}
use Rattle.tv_reader.specs.Depth.{EncodesWithin, Opens}
use Rattle.tv_format.specs.Version.{Version, entry_total}
use Rattle.tv_format.specs.Encoding.{Key}
use Rattle.tv_reader.specs.ValueType.{type_prefix, IsCoded}
use Rattle.tv_reader.specs.Version.{version_of}
use Rattle.tv_reader.specs.declared.value_type.ValueType.{ValueType}
use Rattle.tv_reader.specs.declared.error.DeserializeError.{DeserializeError}
use Rattle.tv_reader.specs.declared.error.DeserializeError.TheVariants as errors
use Rattle.tv_reader.specs.declared.value_type.ValueType.TheVariants as types
use Rattle.tv_typed.specs.Lists.{Length, EncodesEntry, element_total, gives_some}
use Rattle.tv_typed.specs.Values.{EncodesAs}
use Rattle.tv_typed.specs.declared.store_reader.StoreReader.{StoreReader}
use Rattle.tv_value.specs.Owned.{owned_tree}
use Rattle.tv_value.specs.declared.owned_value.OwnedValue.{OwnedValue}

-- after the code of a type the bytes that were taken end with the code of the first list that is
-- one too many
abbrev pub OpensBehind : Version → ℕ → ValueType → List ℕ → List ℕ → Type 0
OpensBehind version levels kind old new =
    Begins (λ bytes. Opens version levels (type_prefix kind ++ bytes)) old new

-- the bytes that were taken after the code of a type encode a tree within the depth
abbrev pub NestsBehind : Version → ℕ → ValueType → List ℕ → List ℕ → Type 0
NestsBehind version levels kind old new =
    (tree : Tree) × Begins (λ bytes. EncodesWithin version levels (type_prefix kind ++ bytes) tree) old new

-- what is said of a value after its code, said of the next value with its code
abbrev pub AtValue : (Version → ℕ → ValueType → List ℕ → List ℕ → Type 0)
    → Version → ℕ → List ℕ → List ℕ → Type 0
AtValue says version levels old new =
    (kind : ValueType) × (mid : List ℕ)
    × Begins (λ bytes. IsCoded bytes kind) old mid × says version levels kind mid new

-- of the next value after a key
abbrev pub AtEntry : (Version → ℕ → ValueType → List ℕ → List ℕ → Type 0)
    → Version → ℕ → List ℕ → List ℕ → Type 0
AtEntry says version levels old new =
    (key : List ℕ) × (mid : List ℕ)
    × Begins (λ bytes. Key version bytes key) old mid × AtValue says version levels mid new

-- of the next value after the four bytes of a field
abbrev pub AtField : (Version → ℕ → ValueType → List ℕ → List ℕ → Type 0)
    → Version → ℕ → List ℕ → List ℕ → Type 0
AtField says version levels old new =
    (field : ℕ) × (mid : List ℕ)
    × Begins (λ bytes. Fixed 4 bytes field) old mid × AtValue says version levels mid new

-- there is a next item, and of it that is so
abbrev pub AtItem : (Version → ℕ → List ℕ → List ℕ → Type 0)
    → ℕ → ℕ → Version → ℕ → List ℕ → List ℕ → Type 0
AtItem Next position announced version levels old new = (position < announced) × Next version levels old new

-- of this many items, one after the other, that is so
abbrev pub AtEach : (List ℕ → List ℕ → Type 0) → ℕ → List ℕ → List ℕ → Type 0
AtEach Next zero old new = new ≡ old
AtEach Next (suc count) old new = (mid : List ℕ) × AtEach Next count old mid × Next mid new

-- of a number of items some are read, and in the place of the next a value is too deep
pub record AmongRead {X : Type 0} (Item : List ℕ → X → Type 0) (Next : List ℕ → List ℕ → Type 0)
    (count : ℕ) (old new : List ℕ) : Type 0 where
  pub before : List X
  pub fewer : length before < count
  pub behind : List ℕ
  pub read : Begins (λ bytes. Each Item bytes before) old behind
  pub next : Next behind new

-- the same after the number of them, of a collection whose code was read
abbrev pub ItemsTooDeep : {X : Type 0} → ValueType → (ℕ → ℕ)
    → (List ℕ → X → Type 0) → (List ℕ → List ℕ → Type 0) → ValueType → List ℕ → List ℕ → Type 0
ItemsTooDeep collection total Item Next kind old new =
    (count : ℕ) × (mid : List ℕ)
    × Begins (λ bytes. Length collection total kind bytes count) old mid × AmongRead Item Next count mid new

-- Of each item of a collection whose code was read it is so, after the number of them.
abbrev pub ItemsWithin : ValueType → (ℕ → ℕ) → (List ℕ → List ℕ → Type 0)
    → ValueType → List ℕ → List ℕ → Type 0
ItemsWithin collection total Next kind old new =
    (count : ℕ) × (mid : List ℕ)
    × Begins (λ bytes. Length collection total kind bytes count) old mid × AtEach Next count mid new

-- of each value of an array
abbrev pub ArrayWithin : (Version → ℕ → ValueType → List ℕ → List ℕ → Type 0)
    → Version → ℕ → ValueType → List ℕ → List ℕ → Type 0
ArrayWithin within version levels = ItemsWithin types.Array element_total (AtValue within version levels)

-- of each value of an object
abbrev pub ObjectWithin : (Version → ℕ → ValueType → List ℕ → List ℕ → Type 0)
    → Version → ℕ → ValueType → List ℕ → List ℕ → Type 0
ObjectWithin within version levels =
    ItemsWithin types.Object (entry_total version) (AtEntry within version levels)

-- the same of an object of any version; of one as older stores hold it nothing is said
abbrev pub MembersWithin : (Version → ℕ → ValueType → List ℕ → List ℕ → Type 0)
    → Version → ℕ → ValueType → List ℕ → List ℕ → Type 0
MembersWithin within version levels kind old new =
    kind ≢ types.JSONObject → ObjectWithin within version levels kind old new

-- among the values of an array
abbrev pub ArrayTooDeep : {X : Type 0} → (Tree → X → Type 0)
    → (Version → ℕ → ValueType → List ℕ → List ℕ → Type 0)
    → Version → ℕ → ValueType → List ℕ → List ℕ → Type 0
ArrayTooDeep is deep version levels =
    ItemsTooDeep types.Array element_total (EncodesAs is version) (AtValue deep version levels)

-- among the values of an object
abbrev pub ObjectTooDeep : {X : Type 0} → (Tree → X → Type 0)
    → (Version → ℕ → ValueType → List ℕ → List ℕ → Type 0)
    → Version → ℕ → ValueType → List ℕ → List ℕ → Type 0
ObjectTooDeep is deep version levels =
    ItemsTooDeep types.Object (entry_total version) (EncodesEntry is version) (AtEntry deep version levels)

-- the same of an object of any version; of a legacy one nothing is said
abbrev pub MembersTooDeep : {X : Type 0} → (Tree → X → Type 0)
    → (Version → ℕ → ValueType → List ℕ → List ℕ → Type 0)
    → Version → ℕ → ValueType → List ℕ → List ℕ → Type 0
MembersTooDeep is deep version levels kind old new =
    kind ≢ types.JSONObject → ObjectTooDeep is deep version levels kind old new

-- Where the result is such a one, this holds of the version, of the depth of the reader, and of the
-- bytes before and after what was read.
abbrev pub WhereBy : {S : Type 0} (is_known : S → Type 0) (left : S → List ℕ) (old new : StoreReader S)
    → Type 0 → (Version → ℕ → List ℕ → List ℕ → Type 0) → Type 0
WhereBy is_known left old new Such shows =
    old.has_failed ≡ false → is_known old.source → Such
    → shows (version_of old.version) old.levels (left old.source) (left new.source)

-- where it is that a value is too deep
abbrev pub WhereTooDeepBy : {S X : Type 0} (is_known : S → Type 0) (left : S → List ℕ)
    (old new : StoreReader S) (result : Result X DeserializeError)
    → (Version → ℕ → List ℕ → List ℕ → Type 0) → Type 0
WhereTooDeepBy is_known left old new result shows =
    WhereBy is_known left old new (IsErrOf result errors.TooDeep) shows

-- where a prefix of what is left encodes a value within the depth, it isn't told to be too deep
abbrev pub HasDepthBy : {S X : Type 0} (is_known : S → Type 0) (left : S → List ℕ)
    (old : StoreReader S) (result : Result X DeserializeError) (code : List ℕ) → Type 0
HasDepthBy is_known left old result code =
    old.has_failed ≡ false → is_known old.source
    → (tree : Tree) (prefix rest : List ℕ) → left old.source ≡ prefix ++ rest
    → EncodesWithin (version_of old.version) old.levels (code ++ prefix) tree
    → ¬ IsErrOf result errors.TooDeep

-- ---- as contracts say it, of a source

-- where a value was read
abbrev pub WhereRead : {S X : Type 0} (source : Ghosts S)
    (old new : StoreReader S) (result : Result X DeserializeError)
    → (Version → ℕ → List ℕ → List ℕ → Type 0) → Type 0
WhereRead source old new result shows = WhereBy source.is_known source.left old new (IsOk result) shows

-- where the next of several was read
abbrev pub WhereGiven : {S X : Type 0} (source : Ghosts S)
    (old new : StoreReader S) (result : Result (Option X) DeserializeError)
    → (Version → ℕ → List ℕ → List ℕ → Type 0) → Type 0
WhereGiven source old new result shows =
    WhereBy source.is_known source.left old new (gives_some result ≡ true) shows

-- where a value is too deep
abbrev pub WhereTooDeep : {S X : Type 0} (source : Ghosts S)
    (old new : StoreReader S) (result : Result X DeserializeError)
    → (Version → ℕ → List ℕ → List ℕ → Type 0) → Type 0
WhereTooDeep source old new result shows = WhereTooDeepBy source.is_known source.left old new result shows

-- in what was read no more lists are open at once than the reader allows
abbrev pub ReadsWithinDepth : {S : Type 0} (source : Ghosts S)
    (old new : StoreReader S) (result : Result OwnedValue DeserializeError) (code : List ℕ) → Type 0
ReadsWithinDepth source old new result code =
    old.has_failed ≡ false → source.is_known old.source
    → IfOk result (λ made. Begins
    (λ bytes. EncodesWithin (version_of old.version) old.levels (code ++ bytes) (owned_tree made))
    (source.left old.source) (source.left new.source))
