-- What was printed so far.
use Rattle.std.proofs.Common.{true, Ok, ◌≡◌, ℕ, ◌+◌, ◌^◌, ◌<◌, List, [], ◌∷◌, ◌++◌, length, map, refl, sym, subst, ap, ◌∙◌, append-nil, append_assoc}
use Rattle.tv_base.specs.Parts.{Begins}
use Rattle.tv_base.specs.Source.{Failures}
use Rattle.tv_base.specs.Stop.{CountsStop}
use Rattle.tv_lines.specs.Printing.{AppendsJson, ArePrinted, laid_out}
use Rattle.tv_lines.specs.Printing.ArePrinted.{none_printed, next_printed}
use Rattle.tv_lines.specs.Exporting.{AppendsBegun, BreaksOff, ExportsAll, LeavesNext}
use Rattle.tv_lines.specs.WorkErrors.{IsOfPrinting, sink_stop, source_stop}
use Rattle.tv_lines.specs.declared.export.JsonLayout.{JsonLayout}
use Rattle.tv_lines.specs.declared.errors.WorkError.{WorkError}
use Rattle.tv_lines.specs.declared.errors.WorkError.TheVariants as errors
use Rattle.tv_field.specs.Entry.{Entry}
use Rattle.tv_format.specs.Tree.{Document}
use Rattle.tv_format.specs.Version.{Version}
use Rattle.tv_store.specs.Documents.{BeginsWithDocument}
use Rattle.tv_store.specs.Projections.{EncodesBlockWithin, EncodesWithinLimits, ReadsOne, kept, limits_of}
use Rattle.tv_store.specs.declared.projection.Projection.{Projection}
use Rattle.tv_store.proofs.BlocksSoFar.{ReadSoFar, read_more, read_none, whole_before}

printed-snoc : (entries : List Entry) (layout : JsonLayout) (documents : List Document) (content json : List ℕ) (d : Document) → ArePrinted entries layout documents content → ArePrinted entries layout (d ∷ []) json
    → ArePrinted entries layout (documents ++ d ∷ []) (content ++ json)
printed-snoc entries layout [] [] json d none_printed one = one
printed-snoc entries layout [] (_ ∷ _) json d p one = elim p [ ]
printed-snoc entries layout (e ∷ es) content json d (next_printed {json = text} {rest = rest} is more) one =
    subst (ArePrinted entries layout ((e ∷ es) ++ d ∷ [])) (sym (append_assoc (laid_out layout text) (10 ∷ rest) json)) (next_printed is (printed-snoc entries layout es rest json d more one))

map-snoc : {A B : Type 0} (f : A → B) (xs : List A) (x : A) → map f (xs ++ x ∷ []) ≡ map f xs ++ f x ∷ []
map-snoc f [] x = refl
map-snoc {B = B} f (y ∷ ys) x = ap (λ (l : List B). f y ∷ l) (map-snoc f ys x)

-- what a write leaves of the next document
pub leaves_line : (entries : List Entry) (layout : JsonLayout) (v : Version) (projection : Projection) (bytes left rest : List ℕ) (number start : ℕ) (old new : List ℕ) (d : Document) (e : WorkError) → IsOfPrinting e → BeginsWithDocument v bytes rest d
    → AppendsBegun entries layout (kept projection d) old new → LeavesNext entries layout v projection bytes left number start old new e
leaves_line entries layout v projection bytes left rest number start old new d (errors.Write kind) is begins leaves = (d, rest, begins, leaves)
leaves_line entries layout v projection bytes left rest number start old new d errors.Memory is begins leaves = (d, rest, begins, leaves)
leaves_line entries layout v projection bytes left rest number start old new d (errors.Read e) is begins leaves = absurd is
leaves_line entries layout v projection bytes left rest number start old new d errors.TooMany is begins leaves = absurd is

-- the documents before the rest, of this number, and their lines
pub record PrintedSoFar (entries : List Entry) (layout : JsonLayout) (v : Version) (projection : Projection) (block rest old now : List ℕ) (number start : ℕ) : Type 0 where
  pub read : ReadSoFar v (limits_of projection) block rest number start
  pub lines : List ℕ
  pub printed : ArePrinted entries layout (map (kept projection) read.documents) lines
  pub held : now ≡ old ++ lines

pub printed_none : (entries : List Entry) (layout : JsonLayout) (v : Version) (projection : Projection) (block old : List ℕ) (start : ℕ) → start ≡ 0 → PrintedSoFar entries layout v projection block block old old 0 start
printed_none entries layout v projection block old start is = record { read = read_none v (limits_of projection) block start is; lines = []; printed = none_printed; held = sym (append-nil old) }

module _ {entries : List Entry} {layout : JsonLayout} {v : Version} {projection : Projection} {block rest old now : List ℕ} {number start : ℕ} (m : PrintedSoFar entries layout v projection block rest old now number start) where
  pub printed_more : {left after : List ℕ} {next : ℕ} (d : Document) (h : Begins (λ b. EncodesWithinLimits v (limits_of projection) b d) rest left) → length left < length rest → (start + length rest < 2 ^ 64 → next + length left ≡ start + length rest)
      → AppendsJson entries layout (kept projection d) now after → PrintedSoFar entries layout v projection block left old after (number + 1) next
  printed_more {left} {after} {next} d h fewer placed line = record {
    read = read_more m.read d h fewer placed;
    lines = m.lines ++ (laid_out layout line.0 ++ 10 ∷ []);
    printed =
        subst (λ (ds : List Document). ArePrinted entries layout ds (m.lines ++ (laid_out layout line.0 ++ 10 ∷ []))) (sym (map-snoc (kept projection) m.read.documents d))
        (printed-snoc entries layout (map (kept projection) m.read.documents) m.lines (laid_out layout line.0 ++ 10 ∷ []) (kept projection d) m.printed (next_printed line.1 none_printed));
    held = line.2 ∙ ap (λ (l : List ℕ). l ++ (laid_out layout line.0 ++ 10 ∷ [])) m.held ∙ append_assoc old m.lines (laid_out layout line.0 ++ 10 ∷ []);
  }

  -- the next document was read, and its line appended
  pub printed_next : {left after : List ℕ} {next : ℕ} {shown : Document} → ReadsOne v projection (λ d. shown ≡ kept projection d) rest left (Ok true) → length left < length rest → (start + length rest < 2 ^ 64 → next + length left ≡ start + length rest)
      → AppendsJson entries layout shown now after → PrintedSoFar entries layout v projection block left old after (number + 1) next
  printed_next {after = after} one fewer placed line = printed_more one.0 one.1 fewer placed (subst (λ (d : Document). AppendsJson entries layout d now after) one.2 line)

  -- it was read, and its line wasn't appended, or not whole
  pub printed_begun : {left after : List ℕ} {shown : Document} (e : WorkError) → ReadsOne v projection (λ d. shown ≡ kept projection d) rest left (Ok true) → IsOfPrinting e → AppendsBegun entries layout shown now after
      → LeavesNext entries layout v projection rest left (length m.read.documents) (length m.read.before) now after e
  printed_begun {left} {after} e one is line =
      leaves_line entries layout v projection rest left left (length m.read.documents) (length m.read.before) now after one.0 e is (record { prefix = one.1.prefix; joined = one.1.joined; encoded = one.1.encoded.encoded })
      (subst (λ (d : Document). AppendsBegun entries layout d now after) one.2 line)

  pub printed_all : rest ≡ [] → ExportsAll entries layout v projection block old now number
  printed_all none = (
    m.read.documents,
    record {
      encoded = subst (λ (l : List ℕ). EncodesBlockWithin v (limits_of projection) l m.read.documents) (sym (whole_before m.read none)) m.read.encoded;
      lines = m.lines;
      printed = m.printed;
      held = m.held;
    },
    m.read.counted,
  )

  pub printed_stops : {left after : List ℕ} (e : WorkError) → LeavesNext entries layout v projection rest left (length m.read.documents) (length m.read.before) now after e → BreaksOff entries layout v projection block left old after e
  printed_stops e next = record {
    before = m.read.before;
    behind = rest;
    joined = m.read.joined;
    documents = m.read.documents;
    middle = now;
    exported = record { encoded = m.read.encoded; lines = m.lines; printed = m.printed; held = m.held };
    next = next;
  }

-- ---- failures

-- what was before the step is what was at the beginning
pub counts_sink : (e : WorkError) {begun old : Failures} (new : Failures) → old ≡ begun → CountsStop (sink_stop e) old new → CountsStop (sink_stop e) begun new
counts_sink e new same counts = subst (λ (f : Failures). CountsStop (sink_stop e) f new) same counts

-- an error of writing says nothing of the source
pub not_source : (e : WorkError) {begun now : Failures} → IsOfPrinting e → now ≡ begun → CountsStop (source_stop e) begun now
not_source (errors.Write kind) is same = same
not_source errors.Memory is same = same
not_source (errors.Read e) is same = absurd is
not_source errors.TooMany is same = absurd is
