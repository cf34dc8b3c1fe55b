-- Where a value is too deep to be read, none is encoded within the depth.
use Rattle.std.proofs.Common.{◌≡◌, ℕ, ◌+◌, ◌<◌, add-one, false, List, ◌++◌, Result, Ok, Err, IfOk, IsOk, IsErrOf, sym, ap, subst, ◌∙◌, append_assoc}
use Rattle.tv_base.specs.Parts.{Begins}
use Rattle.tv_base.specs.Source.{Failures}
use Rattle.tv_format.specs.Version.{Version}
use Rattle.tv_reader.specs.Depth.{EncodesWithin, Opens}
use Rattle.tv_reader.specs.Version.{version_of}
use Rattle.tv_reader.specs.declared.error.DeserializeError.{DeserializeError}
use Rattle.tv_reader.specs.declared.error.DeserializeError.TheVariants as errors
use Rattle.tv_reader.proofs.Depths.{opens_excludes}
use Rattle.tv_base.specs.declared.source.ByteSource.{Ghosts}
use Rattle.tv_reader.specs.Trees.{EncodesBehind}
use Rattle.tv_reader.specs.ValueType.{type_prefix}
use Rattle.tv_reader.specs.declared.value_type.ValueType.{ValueType}
use Rattle.tv_typed.specs.Depths.{AmongRead, AtEach, HasDepthBy, NestsBehind, OpensBehind, ReadsWithinDepth, WhereBy, WhereTooDeep}
use Rattle.tv_typed.specs.Reads.{ReadsTree}
use Rattle.tv_typed.specs.Values.{TreeRefused}
use Rattle.tv_typed.proofs.DeserializeSteps.{tree_only}
use Rattle.tv_value.specs.Owned.{owned_tree}
use Rattle.tv_value.specs.declared.owned_value.OwnedValue.{OwnedValue}
use Rattle.tv_typed.specs.Lists.{EncodesInto}
use Rattle.tv_typed.specs.Typed.{ReadsDeep, ReadsIf, DeserializesBy}
use Rattle.tv_typed.specs.declared.store_reader.StoreReader.{StoreReader}
use Rattle.tv_reader.specs.Error.{StoreMayStop}

-- what stands after a part that was read, at the version and the depth that the reader had before
pub deep_behind : {S X : Type 0} {is_known : S → Type 0} {left : S → List ℕ} {failures : S → Failures} {old mid : StoreReader S} {x : X} {R : List ℕ → X → Type 0} {Q : List ℕ → DeserializeError → Type 0} {P : Type 0} (behind : List ℕ) (Next : Version → ℕ → List ℕ → List ℕ → Type 0)
    → ReadsIf StoreMayStop is_known left failures old mid (Ok x) R Q → (mid.has_failed ≡ false → is_known mid.source → P → Next (version_of mid.version) mid.levels (left mid.source) behind)
    → old.has_failed ≡ false → is_known old.source → P → Begins (λ b. R b x) (left old.source) (left mid.source) × Next (version_of old.version) old.levels (left mid.source) behind
deep_behind {left = left} {old = old} {mid = mid} behind Next p h = λ is_open told is.
    let f = p.finds is_open in
    let there = h p.marks_failure (f.stays_known told) is in (
      f.found told,
      subst (λ l. Next (version_of old.version) l (left mid.source) behind) p.same_levels (subst (λ z. Next (version_of z) mid.levels (left mid.source) behind) p.same_version there),
    )

-- the next item has a value that is too deep
pub among_fails : {S C X : Type 0} {is_known : S → Type 0} {left : S → List ℕ} {failures : S → Failures} {old mid : StoreReader S} {c : C} {m n : ℕ} {I : List ℕ → DeserializeError → Type 0} {P : Type 0} (Made : C → List X → Type 0) (Item : List ℕ → X → Type 0) (behind : List ℕ) (Next : Version → ℕ → List ℕ → List ℕ → Type 0)
    → m < n → DeserializesBy is_known left failures old mid (Ok c) (EncodesInto Made Item m) I
    → (mid.has_failed ≡ false → is_known mid.source → P → Next (version_of mid.version) mid.levels (left mid.source) behind)
    → old.has_failed ≡ false → is_known old.source → P → AmongRead Item (Next (version_of old.version) old.levels) n (left old.source) behind
among_fails {left = left} {old = old} {mid = mid} {n = n} Made Item behind Next less p h = λ is_open told is.
    let f = p.found is_open told in
    let there = h p.unmarked (p.stays_known is_open told) is in
    record {
      before = f.encoded.0;
      fewer = subst (λ k. k < n) (sym f.encoded.2) less;
      behind = left mid.source;
      read = record { prefix = f.prefix; joined = f.joined; encoded = f.encoded.3 };
      next = subst (λ l. Next (version_of old.version) l (left mid.source) behind) p.same_levels (subst (λ z. Next (version_of z) mid.levels (left mid.source) behind) p.same_version there);
    }

-- one item more was read, of which that is so
pub each_more : {S C X : Type 0} {is_known : S → Type 0} {left : S → List ℕ} {failures : S → Failures} {old mid : StoreReader S} {c : C} {m : ℕ} {I : List ℕ → DeserializeError → Type 0} {P : Type 0} (new : StoreReader S) (Made : C → List X → Type 0) (Item : List ℕ → X → Type 0) (Next : Version → ℕ → List ℕ → List ℕ → Type 0)
    → old.has_failed ≡ false → DeserializesBy is_known left failures old mid (Ok c) (EncodesInto Made Item m) I
    → (is_known old.source → AtEach (Next (version_of old.version) old.levels) m (left old.source) (left mid.source)) → WhereBy is_known left mid new P Next → P
    → is_known old.source → AtEach (Next (version_of old.version) old.levels) (m + 1) (left old.source) (left new.source)
each_more {left = left} {old = old} {mid = mid} {m = m} new Made Item Next is_open p so_far h is = λ told.
    let there = h p.unmarked (p.stays_known is_open told) is in
    subst (λ k. AtEach (Next (version_of old.version) old.levels) k (left old.source) (left new.source)) (sym (add-one m))
    (left mid.source, so_far told, subst (λ l. Next (version_of old.version) l (left mid.source) (left new.source)) p.same_levels (subst (λ z. Next (version_of z) mid.levels (left mid.source) (left new.source)) p.same_version there))

pub has_depth : {S X : Type 0} (is_known : S → Type 0) (left : S → List ℕ) (old : StoreReader S) (result : Result X DeserializeError) (code behind : List ℕ)
    → (old.has_failed ≡ false → is_known old.source → IsErrOf result errors.TooDeep → Begins (λ b. Opens (version_of old.version) old.levels (code ++ b)) (left old.source) behind) → HasDepthBy is_known left old result code
has_depth is_known left old result code behind deep =
    λ is_open told t prefix rest joined within is.
    let d = deep is_open told is in
    opens_excludes (version_of old.version) old.levels (code ++ d.prefix) behind (code ++ prefix) rest t d.encoded within
    (append_assoc code d.prefix behind ∙ ap (λ (l : List ℕ). code ++ l) (sym d.joined ∙ joined) ∙ sym (append_assoc code prefix rest))

-- a value of any type, whole
pub reads_tree : {S : Type 0} {source : Ghosts S} {old new : StoreReader S} {result : Result OwnedValue DeserializeError} (kind : ValueType) → ReadsDeep source old new result (EncodesBehind (version_of old.version) kind) (TreeRefused (version_of old.version) kind)
    → ReadsWithinDepth source old new result (type_prefix kind) → WhereTooDeep source old new result (λ version levels. OpensBehind version levels kind) → ReadsTree source kind old new result
reads_tree {source = source} {old = old} {new = new} {result = result} kind reads within deep = record {
  reads = reads;
  only = tree_only (version_of old.version) kind reads;
  within = within;
  deep = deep;
  no_heap_full = has_depth source.is_known source.left old result (type_prefix kind) (source.left new.source) deep;
}

-- where one was read, a tree of it nests within the depth
pub nests_read : (result : Result OwnedValue DeserializeError) (v : Version) (levels : ℕ) (kind : ValueType) (start behind : List ℕ) → IfOk result (λ made. Begins (λ b. EncodesWithin v levels (type_prefix kind ++ b) (owned_tree made)) start behind) → IsOk result → NestsBehind v levels kind start behind
nests_read (Ok made) v levels kind start behind h is = (owned_tree made, h)
nests_read (Err e) v levels kind start behind h is = absurd cc
