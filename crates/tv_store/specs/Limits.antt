-- What reading a document within limits returns.
use Rattle.std.specs.Prelude.{◌≡◌, ◌≢◌, ◌⊎◌, ℕ, zero, Bool, true, false, IsTrue, ◌-◌, ◌^◌, ◌<◌, ◌≤◌, List, []}
use Rattle.std.specs.Prelude.{◌++◌, length, Option, Some, None, Result, Ok, Err, IsErrOf, IsSome}
use Rattle.tv_base.specs.declared.cause.Cause.TheVariants.{UnexpectedEnd, TooLong}
use Rattle.tv_base.specs.declared.source.ByteSource.{Ghosts}
use Rattle.tv_base.specs.Parts.{Begins}
use Rattle.tv_base.specs.ReadsAs.{EndsEarly, Errors, Reads}
use Rattle.tv_base.specs.Source.{Failures}
use Rattle.tv_base.specs.Stop.{Stop, CountsStop}
use Rattle.tv_base.specs.Stop.Stop.{Short}
use Rattle.tv_builder.specs.Behind.{open_parts}
use Rattle.tv_builder.specs.Builder.{state_of, heap_so_far}
use Rattle.tv_builder.specs.Prefix.{Encoded}
use Rattle.tv_builder.specs.State.{State, IsState, awaited, lists_of}
use Rattle.tv_builder.specs.declared.kinds.Awaits.TheVariants as awaits
use Rattle.tv_builder.specs.StateHeap.{state_heap}
use Rattle.tv_builder.specs.TreeBytes.{document_heap}
use Rattle.tv_reading.specs.Kept.{Grows, KeepsPairs}
use Rattle.tv_reading.specs.Prefix.{parts_at, HasField, IsDone, IsPlace, HasNoRoom, IsMalformedNext}
use Rattle.tv_reading.specs.Skip.{IsValueEncoding}
use Rattle.tv_reading.specs.Steps.{HasFirstByte}
use Rattle.tv_reading.specs.declared.reading.Reading.{Reading}
use Rattle.tv_doc.specs.Document.{document_of, heap_of}
use Rattle.tv_doc.specs.declared.document.CompactDoc.{CompactDoc}
use Rattle.tv_reader.specs.Legacy.{Legacy}
use Rattle.tv_reader.specs.Error.{store_stop}
use Rattle.tv_reader.specs.Finds.{FindsBy, GivesStop}
use Rattle.tv_reader.specs.Version.{version_of}
use Rattle.tv_reader.specs.declared.error.DeserializeError.{DeserializeError}
use Rattle.tv_reader.specs.declared.error.DeserializeError.TheVariants as errors
use Rattle.tv_format.specs.Encoding.{EncodesDocument}
use Rattle.tv_format.specs.InputError.{Refusal, corrupted}
use Rattle.tv_format.specs.Tree.{Document}
use Rattle.tv_format.specs.Version.{Version}
use Rattle.tv_value.specs.Nesting.{AllNestWithin}
use Rattle.tv_store.specs.Documents.{SaysNothing, NoDocument, IsReadingError}
use Rattle.tv_store.specs.Blocks.{as_read_within}
use Rattle.tv_store.specs.Decoder.{Steps}
use Rattle.tv_store.specs.Reading.{documents, resumed}
use Rattle.tv_store.specs.declared.block.BlockReader.{BlockReader}
use Rattle.tv_store.specs.declared.direct_decoder.DirectDecoder.{DirectDecoder}
use Rattle.tv_store.specs.declared.direct_decoder.Step.{Step}
use Rattle.tv_store.specs.declared.limits.ReadLimits.{ReadLimits}
use Rattle.tv_store.specs.declared.limits.ReadLimit.{ReadLimit}
use Rattle.tv_store.specs.declared.limits.ReadLimit.TheVariants as limit
use Rattle.tv_store.specs.declared.limits.LimitedReadError.{LimitedReadError}
use Rattle.tv_store.specs.declared.limits.LimitedReadError.TheVariants as limited

-- ---- which limit is passed

abbrev pub IsPast : Option ℕ → ℕ → Type 0
IsPast None number = ⊥
IsPast (Some most) number = most < number

-- The limit that is passed where the heap has this many bytes and this many lists are open: that of the lists
-- before that of the heap.
abbrev pub Checks : ReadLimits → ℕ → ℕ → Option ReadLimit → Type 0
Checks limits heap open_lists (Some limit.Depth) = IsPast limits.depth open_lists
Checks limits heap open_lists (Some limit.HeapBytes) = (¬ IsPast limits.depth open_lists)
    × IsPast limits.heap_bytes heap
Checks limits heap open_lists (Some limit.Bytes) = ⊥
Checks limits heap open_lists None = (¬ IsPast limits.depth open_lists) × (¬ IsPast limits.heap_bytes heap)

-- ---- how many bytes are taken

-- the count from which this many bytes can be counted, as 2 ^ 64 - 1 can be in all
abbrev pub first_count : Option ℕ → ℕ
first_count None = 0
first_count (Some most) = 2 ^ 64 - 1 - most

-- What is said of an error: where all bytes were taken that may be and more are needed, that the limit is
-- passed, and else the error itself.
abbrev pub Told : Bool → DeserializeError → LimitedReadError → Type 0
Told took_all error (limited.Read told) = (told ≡ error)
    × (error ≡ errors.CorruptedValue TooLong → ¬ IsTrue took_all)
Told took_all error (limited.Limit limit.Bytes) = IsTrue took_all × (error ≡ errors.CorruptedValue TooLong)
Told took_all error (limited.Limit limit.HeapBytes) = ⊥
Told took_all error (limited.Limit limit.Depth) = ⊥

-- ---- what is found

abbrev pub FindsWithinBy : {S X : Type 0} (is_known : S → Type 0) (left : S → List ℕ)
    (failures : S → Failures) (old : S) (old_count : ℕ) (new : S) (new_count : ℕ)
    (result : Result X DeserializeError) (Encodes : List ℕ → X → Type 0)
    (HasError : List ℕ → Refusal → Type 0) → Type 0
FindsWithinBy is_known left failures old old_count new new_count result Encodes HasError =
    FindsBy store_stop (λ _ _. Unit {0})
    (corrupted UnexpectedEnd) is_known left failures old old_count new new_count result Encodes HasError

-- the same, as contracts say it, of a source
abbrev pub FindsWithin : {S X : Type 0} (source : Ghosts S) (old : S) (old_count : ℕ) (new : S)
    (new_count : ℕ) (result : Result X DeserializeError) (Encodes : List ℕ → X → Type 0)
    (HasError : List ℕ → Refusal → Type 0) → Type 0
FindsWithin source old old_count new new_count result Encodes HasError =
    FindsWithinBy source.is_known source.left source.failures old old_count new new_count result Encodes
    HasError

-- why it stopped, as its source sees it
abbrev pub limited_stop : LimitedReadError → Stop Refusal
limited_stop (limited.Read error) = store_stop error
limited_stop (limited.Limit passed) = Short

-- the same of a part, where a limit may be passed
abbrev pub FindsPartBy : {S X : Type 0} (is_known : S → Type 0) (left : S → List ℕ) (failures : S → Failures)
    (old : S) (old_count : ℕ) (new : S) (new_count : ℕ) (result : Result X LimitedReadError)
    (Encodes : List ℕ → X → Type 0) (HasError : List ℕ → Refusal → Type 0) → Type 0
FindsPartBy is_known left failures old old_count new new_count result Encodes HasError =
    FindsBy limited_stop (λ _ _. Unit {0})
    (corrupted UnexpectedEnd) is_known left failures old old_count new new_count result Encodes HasError

abbrev pub FindsPart : {S X : Type 0} (source : Ghosts S) (old : S) (old_count : ℕ) (new : S) (new_count : ℕ)
    (result : Result X LimitedReadError) (Encodes : List ℕ → X → Type 0)
    (HasError : List ℕ → Refusal → Type 0) → Type 0
FindsPart source old old_count new new_count result Encodes HasError =
    FindsPartBy source.is_known source.left source.failures old old_count new new_count result Encodes
    HasError

-- no limit is passed but that of the bytes, and that one where just as many were taken
abbrev pub IsCapped : Option ℕ → ℕ → LimitedReadError → Type 0
IsCapped most count (limited.Read error) = Unit {0}
IsCapped most count (limited.Limit limit.Bytes) = most ≡ Some count
IsCapped most count (limited.Limit limit.HeapBytes) = ⊥
IsCapped most count (limited.Limit limit.Depth) = ⊥

-- What a part's bytes, the heap and the open lists are once it has come, or which of them passes its limit.
-- `old` bytes were taken before it, and `new` with it.
abbrev pub TestsLimits : {X : Type 0} → ReadLimits → ℕ → ℕ → ℕ → ℕ → Result X LimitedReadError → Type 0
TestsLimits limits old new heap open_lists (Ok value) = Checks limits heap open_lists None
TestsLimits limits old new heap open_lists (Err (limited.Read error)) = Unit {0}
TestsLimits limits old new heap open_lists (Err (limited.Limit limit.Bytes)) = (limits.bytes ≡ Some new)
    ⊎ (IsPast limits.bytes old × (new ≡ old))
TestsLimits limits old new heap open_lists (Err (limited.Limit passed)) =
    Checks limits heap open_lists (Some passed)

-- what a part leaves of what had come: where it has come itself that grows, and else the finished pairs stay
abbrev pub KeepsOrGrows : {X : Type 0} → Reading → Reading → Result X LimitedReadError → Type 0
KeepsOrGrows old new (Ok value) = Grows old new
KeepsOrGrows old new (Err (limited.Read error)) = KeepsPairs old new
KeepsOrGrows old new (Err (limited.Limit limit.Bytes)) = KeepsPairs old new
KeepsOrGrows old new (Err (limited.Limit passed)) = Grows old new

-- ---- what comes of a document

-- each tree of the document nests within this many lists, if that is limited
abbrev pub AllNestWithinLimit : Option ℕ → Document → Type 0
AllNestWithinLimit None document = Unit {0}
AllNestWithinLimit (Some most) document = AllNestWithin most document

-- each tree of the document and its heap are within their limits
pub record FitsLimits (limits : ReadLimits) (document : CompactDoc) : Type 0 where
  pub shallow : AllNestWithinLimit limits.depth (document_of document)
  pub small : ¬ IsPast limits.heap_bytes (length (heap_of document))

-- What is returned where a document was read: itself, if its trees nest within the limit, and else that they
-- don't. Or memory was refused.
abbrev pub TestsDepth : Option ℕ → CompactDoc → Result CompactDoc LimitedReadError → Type 0
TestsDepth most read (Ok document) = (document ≡ read) × AllNestWithinLimit most (document_of read)
TestsDepth most read (Err (limited.Read error)) = error ≡ errors.Memory
TestsDepth most read (Err (limited.Limit limit.Depth)) = ¬ AllNestWithinLimit most (document_of read)
TestsDepth most read (Err (limited.Limit passed)) = ⊥

-- The bytes encode a document of which a tree nests deeper: an object of an older store may, in which no list
-- is open while it is read, and so may a list without children, which is never open.
pub record NestsDeeper (version : Version) (most : Option ℕ) (taken : List ℕ) : Type 0 where
  pub document : Document
  pub encoded : EncodesDocument Legacy version taken document
  pub deeper : ¬ AllNestWithinLimit most document

-- More than this many lists are open in what the bytes encode: the finished pairs, a field, and what
-- has come of its value.
pub record IsDeep (version : Version) (most : Option ℕ) (taken : List ℕ) : Type 0 where
  pub announced : ℕ
  pub finished : Document
  pub field : ℕ
  pub state : State
  pub less : length finished < announced
  pub is : IsState state
  pub encoded : Encoded Legacy version taken (open_parts announced finished field state)
  pub deep : IsPast most (length (lists_of state))

-- More lists are open than may be, or the whole document nests deeper.
abbrev pub PassesDepth : Version → Option ℕ → List ℕ → Type 0
PassesDepth version most taken = IsDeep version most taken ⊎ NestsDeeper version most taken

-- What is written of what the bytes encode takes more than this many bytes of a heap: the finished pairs, and
-- what has come of a value.
pub record IsLarge (version : Version) (most : Option ℕ) (taken : List ℕ) : Type 0 where
  pub announced : Option ℕ
  pub finished : Document
  pub field : Option ℕ
  pub state : State
  pub place : IsPlace announced finished field state
  pub encoded : Encoded Legacy version taken (parts_at announced finished field state)
  pub large : IsPast most (length (state_heap (document_heap [] finished) state))

-- ---- that limits are tested as bytes come

-- The bytes encode what has come of a document, and that passes neither the limit of the open
-- lists nor that of the heap.
pub record StandsWithin (version : Version) (limits : ReadLimits) (bytes : List ℕ) : Type 0 where
  pub announced : Option ℕ
  pub finished : Document
  pub field : Option ℕ
  pub state : State
  pub is : IsState state
  pub place : IsPlace announced finished field state
  pub encoded : Encoded Legacy version bytes (parts_at announced finished field state)
  pub tested : Checks limits (length (state_heap (document_heap [] finished) state))
      (length (lists_of state)) None

-- where a value is awaited, the code of a pre-tokenized text or of an object of an older
-- store, which are taken whole
abbrev pub BeginsWhole : {version : Version} {limits : ReadLimits} {bytes : List ℕ}
    → StandsWithin version limits bytes
    → List ℕ → Type 0
BeginsWhole within part = HasField within.field × (awaited within.state ≡ awaits.Value)
    × (HasFirstByte 7 part ⊎ HasFirstByte 8 part)

-- after what has come, a part, or a beginning of one: at most 4096 bytes, unless a value is taken whole
abbrev pub IsNextPart : {version : Version} {limits : ReadLimits} {bytes : List ℕ} → Bool
    → StandsWithin version limits bytes → List ℕ → Type 0
IsNextPart {version = version} true within part = (length part ≤ 4096)
    ⊎ (BeginsWhole within part × IsValueEncoding version part)
IsNextPart false within part = (length part ≤ 4096) ⊎ BeginsWhole within part

-- The bytes came part by part, and before each part what had come was within the limits.
pub data CameWithin (version : Version) (limits : ReadLimits) : List ℕ → Type 0 where
  nothing : CameWithin version limits []
  and_part : (before part : List ℕ) → CameWithin version limits before
      → (within : StandsWithin version limits before)
      → IsNextPart true within part
      → CameWithin version limits (before ++ part)

-- The bytes came in this way, and then one more part came, or a beginning of one. So no limit is passed
-- before that last part.
pub record TakenWithin (version : Version) (limits : ReadLimits) (is_whole : Bool)
    (taken : List ℕ) : Type 0 where
  pub before : List ℕ
  pub last : List ℕ
  pub joined : taken ≡ before ++ last
  pub came : CameWithin version limits before
  pub within : StandsWithin version limits before
  pub part : IsNextPart is_whole within last

-- whether the last part has come: not where it can't be read, nor where more bytes are
-- needed for it than may be taken
abbrev pub ends_part : LimitedReadError → Bool
ends_part (limited.Read error) = false
ends_part (limited.Limit limit.Bytes) = false
ends_part (limited.Limit limit.HeapBytes) = true
ends_part (limited.Limit limit.Depth) = true

abbrev pub has_come : {X : Type 0} → Result X LimitedReadError → Bool
has_come (Ok value) = true
has_come (Err error) = ends_part error

-- as many bytes as may be taken
abbrev pub IsAll : Option ℕ → List ℕ → Type 0
IsAll most taken = most ≡ Some (length taken)

-- What couldn't be read, of bytes of which this many were taken.
pub record Unread (version : Version) (old new : List ℕ) (count : ℕ) (error : DeserializeError) : Type 0 where
  pub stop : GivesStop (corrupted UnexpectedEnd) (NoDocument version) old new count (store_stop error)
  pub no_room : error ≡ errors.HeapFull → HasNoRoom version old

-- by what was taken
abbrev pub OutcomeWithin : Version → ReadLimits → List ℕ → List ℕ → List ℕ
    → Result CompactDoc LimitedReadError → Type 0
OutcomeWithin version limits old new taken (Ok document) =
    EncodesDocument Legacy version taken (document_of document)
OutcomeWithin version limits old new taken (Err (limited.Read error)) =
    Unread version old new (length taken) error
OutcomeWithin version limits old new taken (Err (limited.Limit limit.HeapBytes)) =
    IsLarge version limits.heap_bytes taken
OutcomeWithin version limits old new taken (Err (limited.Limit limit.Depth)) =
    PassesDepth version limits.depth taken
OutcomeWithin version limits old new taken (Err (limited.Limit limit.Bytes)) = IsAll limits.bytes taken
    × NoDocument version taken (corrupted UnexpectedEnd)

pub record ReadsByLimits (version : Version) (limits : ReadLimits) (old new : List ℕ)
    (result : Result CompactDoc LimitedReadError) : Type 0 where
  pub taken : List ℕ
  pub joined : old ≡ taken ++ new
  pub most : ¬ IsPast limits.bytes (length taken)
  pub outcome : OutcomeWithin version limits old new taken result

-- the errors that come: those of reading, and a limit that is set
abbrev pub IsLimitedError : ReadLimits → LimitedReadError → Type 0
IsLimitedError limits (limited.Read error) = IsReadingError error
IsLimitedError limits (limited.Limit limit.HeapBytes) = IsSome limits.heap_bytes
IsLimitedError limits (limited.Limit limit.Depth) = IsSome limits.depth
IsLimitedError limits (limited.Limit limit.Bytes) = IsSome limits.bytes

-- an error that may come although this prefix encodes a document: that of a limit, that of the bytes only
-- where the prefix has more, or one that says nothing of the bytes
abbrev pub MayPass : Option ℕ → List ℕ → LimitedReadError → Type 0
MayPass most prefix (limited.Read error) = SaysNothing error
MayPass most prefix (limited.Limit limit.Bytes) = IsPast most (length prefix)
MayPass most prefix (limited.Limit passed) = Unit {0}

-- the errors of reading within limits
abbrev pub within : ReadLimits → Errors Refusal LimitedReadError
within limits =
    record {
      end = corrupted UnexpectedEnd;
      stop = limited_stop;
      IsFull = λ error. error ≡ limited.Read errors.HeapFull;
      MayCome = IsLimitedError limits;
      MayComeStill = MayPass limits.bytes;
      IsCounted = λ error. CountsStop (limited_stop error);
    }

-- a document is read within limits
abbrev pub ReadsWithin : Version → ReadLimits
    → {S : Type 0} (source : Ghosts S) (old new : S) (result : Result CompactDoc LimitedReadError) → Type 0
ReadsWithin version limits source old new result =
    Reads (within limits) (documents version) source old new document_of result

-- a reader of blocks read the next document within limits
abbrev pub ReadsNextWithin : ReadLimits
    → {S : Type 0} (source : Ghosts S) (source_old source_new : S) (old new : BlockReader)
    (result : Result Bool LimitedReadError) → Type 0
ReadsNextWithin limits source source_old source_new old new result =
    Reads (resumed old.failed (limited.Read errors.AlreadyFailed) (within limits))
    (documents (version_of old.version)) source source_old source_new document_of
    (as_read_within result new.document)

-- what was taken where a limit is passed, and that no more was than may be, whatever is returned
pub record StopsWithin {S X : Type 0} (version : Version) (limits : ReadLimits) (source : Ghosts S)
    (old new : S)
    (result : Result X LimitedReadError) : Type 0 where
  pub depth : source.is_known old → IsErrOf result (limited.Limit limit.Depth)
      → Begins (PassesDepth version limits.depth) (source.left old) (source.left new)
  pub heap : source.is_known old → IsErrOf result (limited.Limit limit.HeapBytes)
      → Begins (IsLarge version limits.heap_bytes) (source.left old) (source.left new)
  pub bytes : source.is_known old → IsErrOf result (limited.Limit limit.Bytes)
      → Begins (IsAll limits.bytes) (source.left old) (source.left new)
  -- a document needs more
  pub ends : source.is_known old → IsErrOf result (limited.Limit limit.Bytes)
      → EndsEarly (corrupted UnexpectedEnd) (NoDocument version) (source.left old) (source.left new)
  pub most : source.is_known old
      → Begins (λ prefix. ¬ IsPast limits.bytes (length prefix)) (source.left old) (source.left new)
  -- the limits of the heap and of the open lists are tested after each part
  pub parts : source.is_known old
      → Begins (TakenWithin version limits (has_come result)) (source.left old) (source.left new)

-- ---- the next document of a block within limits

-- what may be taken of a document, or one byte, which shows that there is one
abbrev pub at_least_one : Option ℕ → Option ℕ
at_least_one (Some zero) = Some 1
at_least_one most = most

-- The document with which the bytes begin passes the limit of its bytes: all that may be taken were, and it
-- needs more. Where none may be, one byte was taken, so that there is a document.
abbrev pub PassesBytesLimit : Version → Option ℕ → List ℕ → List ℕ → Type 0
PassesBytesLimit version most old new = Begins (IsAll (at_least_one most)) old new
    × (most ≢ Some 0 → EndsEarly (corrupted UnexpectedEnd) (NoDocument version) old new)

-- what was taken where a limit is passed, and that no more was than may be, whatever is returned
pub record StopsNextWithin {S : Type 0} (version : Version) (limits : ReadLimits) (source : Ghosts S)
    (old new : S)
    (result : Result Bool LimitedReadError) : Type 0 where
  pub depth : source.is_known old → IsErrOf result (limited.Limit limit.Depth)
      → Begins (PassesDepth version limits.depth) (source.left old) (source.left new)
  pub heap : source.is_known old → IsErrOf result (limited.Limit limit.HeapBytes)
      → Begins (IsLarge version limits.heap_bytes) (source.left old) (source.left new)
  pub bytes : source.is_known old → IsErrOf result (limited.Limit limit.Bytes)
      → PassesBytesLimit version limits.bytes (source.left old) (source.left new)
  pub small : source.is_known old → result ≡ Ok true
      → Begins (λ prefix. ¬ IsPast limits.bytes (length prefix)) (source.left old) (source.left new)
  pub most : source.is_known old
      → Begins (λ prefix. ¬ IsPast (at_least_one limits.bytes) (length prefix)) (source.left old)
      (source.left new)
  -- the limits of the heap and of the open lists are tested after each part
  pub parts : source.is_known old
      → Begins (TakenWithin version limits (has_come (as_read_within result (tt {0})))) (source.left old)
      (source.left new)

-- ---- a step within limits

abbrev pub ReadsStepWithin : ReadLimits
    → {S : Type 0} (source : Ghosts S) (source_old source_new : S) (old new : DirectDecoder)
    (result : Result Step LimitedReadError) → Type 0
ReadsStepWithin limits source source_old source_new old new result =
    Steps (within limits) (λ _ _. Unit {0})
    (limited.Read errors.AlreadyFailed) source source_old source_new old new result

-- Where the part passes the limit of the bytes, and not more were taken before, what was taken of
-- the part ends too early.
abbrev pub EndsPart : ReadLimits
    → {S : Type 0} (source : Ghosts S) (source_old source_new : S) (old : DirectDecoder)
    (result : Result Step LimitedReadError) → Type 0
EndsPart limits source source_old source_new old result =
    old.failed ≡ false → ¬ IsDone old.reading → ¬ IsPast limits.bytes old.count → source.is_known source_old
    → IsErrOf result (limited.Limit limit.Bytes)
    → EndsEarly (corrupted UnexpectedEnd) (IsMalformedNext (version_of old.version) old.reading)
    (source.left source_old) (source.left source_new)

-- A part that has come is within the limits, or the limit that is reported is passed.
abbrev pub TestsPart : ReadLimits → DirectDecoder → DirectDecoder → Result Step LimitedReadError → Type 0
TestsPart limits old new result =
    old.failed ≡ false → ¬ IsDone old.reading
    → TestsLimits limits old.count new.count (length (heap_so_far new.reading.builder))
    (length (lists_of (state_of new.reading.builder))) result

-- where not more bytes were taken than may be, not more are
abbrev pub KeepsMost : ReadLimits → DirectDecoder → DirectDecoder → Type 0
KeepsMost limits old new = ¬ IsPast limits.bytes old.count → ¬ IsPast limits.bytes new.count

abbrev pub LeavesPart : DirectDecoder → DirectDecoder → Result Step LimitedReadError → Type 0
LeavesPart old new result = old.failed ≡ false → ¬ IsDone old.reading
    → KeepsOrGrows old.reading new.reading result
