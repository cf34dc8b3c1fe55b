-- Paths from left to right, and their segments joined.
use Rattle.std.proofs.Common.{◌≡◌, ◌≢◌, ℕ, suc, zero, ◌+◌, ◌≤◌, ◌<◌, ◌&&◌, ◌||◌, Bool, true, false, not, cond, List, [], ◌∷◌, ◌++◌, map, length, take, drop, get_or, refl, sym, ◌∙◌, ap, arith, eqb, append_assoc, drop-cons, add-one}
use Rattle.std.proofs.lemmas.List.{drop_all, append-nil, map-append, take_more}
use Rattle.std.proofs.lemmas.Bool.{eqb-true}
use Rattle.std.specs.List.{flat_map, slice_split, slice_range, onto_first, join_with_byte}
use Rattle.tv_base.specs.Escapes.{is_unescaped, kept_byte, rewritten}
use Rattle.tv_base.specs.JsonPath.{marked_below, marked, is_splitting, split, expanded, joined_path}
use Rattle.tv_base.specs.Rewriting.{path_byte}
use Rattle.tv_base.proofs.Rewriting.{is_unescaped-more, rewritten_from, rewritten-from, slice_range-more, slice_range-none}

-- whether the next byte is unescaped
abbrev pub next : Bool → ℕ → Bool
next unescaped b = not (eqb b 92 && unescaped)

abbrev kept : Bool × ℕ → List ℕ
kept mark = kept_byte mark.0 mark.1

abbrev marked_from : Bool → List ℕ → List (Bool × ℕ)
marked_from unescaped [] = []
marked_from unescaped (b ∷ bs) = (unescaped, b) ∷ marked_from (next unescaped b) bs

marked-split : (text : List ℕ) (n i : ℕ) → i + n ≡ length text → marked text ≡ marked_below text i ++ marked_from (is_unescaped text i) (drop i text)
marked-split text zero i e =
    let end : i ≡ length text = omega arith in
    rw (drop_all i text (omega arith), append-nil (marked_below text i)) (ap (marked_below text) (sym end))
marked-split text (suc n) i e =
    let h : i < length text = omega arith in
    marked-split text n (suc i) (omega arith)
    ∙ append_assoc (marked_below text i) ((is_unescaped text i, get_or text i 0) ∷ []) (marked_from (is_unescaped text (suc i)) (drop (suc i) text))
    ∙ ap (λ l. marked_below text i ++ l)
    (ap (λ u. (is_unescaped text i, get_or text i 0) ∷ marked_from u (drop (suc i) text)) (rw add-one at (is_unescaped-more text i h))
    ∙ ap (marked_from (is_unescaped text i)) (sym (drop-cons text i 0 h)))

marked-from : (text : List ℕ) → marked text ≡ marked_from true text
marked-from text = marked-split text (length text) 0 (omega arith)

-- bytes before those of the first segment
abbrev pub onto : List ℕ → List (List ℕ) → List (List ℕ)
onto prefix [] = prefix ∷ []
onto prefix (segment ∷ segments) = (prefix ++ segment) ∷ segments

-- the segments of what is left
abbrev pub split_from : Bool → List ℕ → List (List ℕ)
split_from unescaped [] = [] ∷ []
split_from unescaped (b ∷ bs) =
    cond (unescaped && eqb b 46) ([] ∷ split_from (next unescaped b) bs) (onto (kept (unescaped, b)) (split_from (next unescaped b) bs))

onto-map : (mark : Bool × ℕ) (parts : List (List (Bool × ℕ))) → map (flat_map kept) (onto_first mark parts) ≡ onto (kept mark) (map (flat_map kept) parts)
onto-map mark [] = ap (λ s. s ∷ []) (append-nil (kept mark))
onto-map mark (part ∷ parts) = refl

split_case : (c : Bool) (mark : Bool × ℕ) (parts : List (List (Bool × ℕ))) → map (flat_map kept) (cond c ([] ∷ parts) (onto_first mark parts)) ≡ cond c ([] ∷ map (flat_map kept) parts) (onto (kept mark) (map (flat_map kept) parts))
split_case true mark parts = refl
split_case false mark parts = onto-map mark parts

segments-from : (unescaped : Bool) (text : List ℕ) → map (flat_map kept) (slice_split is_splitting (marked_from unescaped text)) ≡ split_from unescaped text
segments-from unescaped [] = refl
segments-from unescaped (b ∷ bs) =
    split_case (unescaped && eqb b 46) (unescaped, b) (slice_split is_splitting (marked_from (next unescaped b) bs))
    ∙ ap (λ segments. cond (unescaped && eqb b 46) ([] ∷ segments) (onto (kept (unescaped, b)) segments)) (segments-from (next unescaped b) bs)

pub split-from : (text : List ℕ) → split text ≡ split_from true text
split-from text = ap (λ marks. map (flat_map kept) (slice_split is_splitting marks)) (marked-from text) ∙ segments-from true text

pub onto-onto : (a b : List ℕ) (segments : List (List ℕ)) → onto a (onto b segments) ≡ onto (a ++ b) segments
onto-onto a b [] = refl
onto-onto a b (segment ∷ segments) = ap (λ s. s ∷ segments) (sym (append_assoc a b segment))

onto-not_nil : (prefix : List ℕ) (segments : List (List ℕ)) → onto prefix segments ≢ []
onto-not_nil prefix [] e = cc
onto-not_nil prefix (segment ∷ segments) e = cc

split_from_case-not_nil : (c : Bool) (prefix : List ℕ) (segments : List (List ℕ)) → cond c ([] ∷ segments) (onto prefix segments) ≢ []
split_from_case-not_nil true prefix segments e = cc
split_from_case-not_nil false prefix segments e = onto-not_nil prefix segments e

pub split_from-not_nil : (unescaped : Bool) (text : List ℕ) → split_from unescaped text ≢ []
split_from-not_nil unescaped [] e = cc
split_from-not_nil unescaped (b ∷ bs) e = split_from_case-not_nil (unescaped && eqb b 46) (kept (unescaped, b)) (split_from (next unescaped b) bs) e

pub and_false : (b : Bool) → (b && false) ≡ false
and_false true = refl
and_false false = refl

-- a byte that stands for itself
split_from-kept : (unescaped : Bool) (b : ℕ) (bs : List ℕ) → (unescaped && eqb b 46) ≡ false → (eqb b 92 && unescaped) ≡ false → split_from unescaped (b ∷ bs) ≡ onto (b ∷ []) (split_from true bs)
split_from-kept unescaped b bs dot back = rw (dot, back) refl

pub onto-nothing : (segments : List (List ℕ)) → segments ≢ [] → onto [] segments ≡ segments
onto-nothing [] h = absurd (h refl)
onto-nothing (segment ∷ segments) h = refl

at_place : (unescaped : Bool) (text : List ℕ) (i : ℕ) → i < length text → split_from unescaped (drop i text) ≡ split_from unescaped (get_or text i 0 ∷ drop (i + 1) text)
at_place unescaped text i h = ap (split_from unescaped) (drop-cons text i 0 h ∙ ap (λ n. get_or text i 0 ∷ drop n text) (sym (add-one i)))

-- a byte that stands for itself waits with those before it
pub segment-kept : (done all : List (List ℕ)) (text prefix : List ℕ) (start i : ℕ) (unescaped : Bool) → start ≤ i → i < length text
    → (unescaped && eqb (get_or text i 0) 46) ≡ false → (eqb (get_or text i 0) 92 && unescaped) ≡ false
    → done ++ onto (prefix ++ slice_range text start i) (split_from unescaped (drop i text)) ≡ all
    → done ++ onto (prefix ++ slice_range text start (i + 1)) (split_from true (drop (i + 1) text)) ≡ all
segment-kept done all text prefix start i unescaped h j dot back told =
    let rest = split_from true (drop (i + 1) text) in
    let b = get_or text i 0 in
    ap (λ l. done ++ onto l rest) (ap (λ l. prefix ++ l) (slice_range-more text start i h j) ∙ sym (append_assoc prefix (slice_range text start i) (b ∷ [])))
    ∙ ap (λ l. done ++ l) (sym (onto-onto (prefix ++ slice_range text start i) (b ∷ []) rest) ∙ ap (onto (prefix ++ slice_range text start i)) (sym (at_place unescaped text i j ∙ split_from-kept unescaped b (drop (i + 1) text) dot back)))
    ∙ told

-- a backslash goes, and what waited is written
pub segment-escape : (done all : List (List ℕ)) (text prefix written : List ℕ) (start i : ℕ) → i < length text → get_or text i 0 ≡ 92
    → written ≡ prefix ++ slice_range text start i
    → done ++ onto (prefix ++ slice_range text start i) (split_from true (drop i text)) ≡ all
    → done ++ onto (written ++ slice_range text (i + 1) (i + 1)) (split_from false (drop (i + 1) text)) ≡ all
segment-escape done all text prefix written start i j back is told =
    let rest = split_from false (drop (i + 1) text) in
    ap (λ l. done ++ onto l rest) (ap (λ l. written ++ l) (slice_range-none text (i + 1)) ∙ append-nil written ∙ is)
    ∙ ap (λ l. done ++ onto (prefix ++ slice_range text start i) l)
    (sym (at_place true text i j ∙ ap (λ b. split_from true (b ∷ drop (i + 1) text)) back ∙ onto-nothing rest (split_from-not_nil false (drop (i + 1) text))))
    ∙ told

-- a dot ends a segment
pub segment-dot : (done all : List (List ℕ)) (text prefix written : List ℕ) (start i : ℕ) → i < length text → get_or text i 0 ≡ 46
    → written ≡ prefix ++ slice_range text start i
    → done ++ onto (prefix ++ slice_range text start i) (split_from true (drop i text)) ≡ all
    → (done ++ written ∷ []) ++ onto ([] ++ slice_range text (i + 1) (i + 1)) (split_from true (drop (i + 1) text)) ≡ all
segment-dot done all text prefix written start i j dot is told =
    let rest = split_from true (drop (i + 1) text) in
    let waited = prefix ++ slice_range text start i in
    append_assoc done (written ∷ []) (onto ([] ++ slice_range text (i + 1) (i + 1)) rest)
    ∙ ap (λ l. done ++ written ∷ l) (ap (λ l. onto l rest) (slice_range-none text (i + 1)) ∙ onto-nothing rest (split_from-not_nil true (drop (i + 1) text)))
    ∙ ap (λ l. done ++ l ∷ rest) (is ∙ sym (append-nil waited))
    ∙ ap (λ l. done ++ onto waited l) (sym (at_place true text i j ∙ ap (λ b. split_from true (b ∷ drop (i + 1) text)) dot))
    ∙ told

abbrev joined_bytes : Bool → List (List ℕ) → List ℕ
joined_bytes expand_dots segments = join_with_byte 1 (map (map (expanded expand_dots)) segments)

join-separated : (expand_dots : Bool) (segments : List (List ℕ)) → segments ≢ [] → joined_bytes expand_dots ([] ∷ segments) ≡ 1 ∷ joined_bytes expand_dots segments
join-separated expand_dots [] h = absurd (h refl)
join-separated expand_dots (segment ∷ segments) h = refl

join-onto : (expand_dots : Bool) (prefix : List ℕ) (segments : List (List ℕ)) → segments ≢ [] → joined_bytes expand_dots (onto prefix segments) ≡ map (expanded expand_dots) prefix ++ joined_bytes expand_dots segments
join-onto expand_dots prefix [] h = absurd (h refl)
join-onto expand_dots prefix (segment ∷ []) h = map-append (expanded expand_dots) prefix segment
join-onto expand_dots prefix (segment ∷ other ∷ segments) h =
    ap (λ l. l ++ 1 ∷ joined_bytes expand_dots (other ∷ segments)) (map-append (expanded expand_dots) prefix segment)
    ∙ append_assoc (map (expanded expand_dots) prefix) (map (expanded expand_dots) segment) (1 ∷ joined_bytes expand_dots (other ∷ segments))

-- no byte is a dot and a backslash
not_both : (b : ℕ) → eqb b 46 ≡ true → eqb b 92 ≡ false
not_both b e = rw (eqb-true b 46 e) refl

byte_case : (unescaped expand_dots dot back : Bool) (b : ℕ) → (dot ≡ true → back ≡ false) → (segments : List (List ℕ)) → segments ≢ []
    → eqb b 46 ≡ dot → eqb b 92 ≡ back
    → joined_bytes expand_dots (cond (unescaped && dot) ([] ∷ segments) (onto (cond (back && unescaped) [] (b ∷ [])) segments))
    ≡ cond (unescaped && back) [] (cond ((unescaped || expand_dots) && dot) (1 ∷ []) (b ∷ [])) ++ joined_bytes expand_dots segments
byte_case true expand_dots true true b h segments some e f = let no = h refl in cc
byte_case true expand_dots true false b h segments some e f = join-separated expand_dots segments some
byte_case true expand_dots false true b h segments some e f = join-onto expand_dots [] segments some
byte_case true true false false b h segments some e f = join-onto true (b ∷ []) segments some ∙ rw e refl
byte_case true false false false b h segments some e f = join-onto false (b ∷ []) segments some
byte_case false true true true b h segments some e f = let no = h refl in cc
byte_case false true true false b h segments some e f = join-onto true (b ∷ []) segments some ∙ rw e refl
byte_case false true false true b h segments some e f = join-onto true (b ∷ []) segments some ∙ rw e refl
byte_case false true false false b h segments some e f = join-onto true (b ∷ []) segments some ∙ rw e refl
byte_case false false dot true b h segments some e f = join-onto false (b ∷ []) segments some
byte_case false false dot false b h segments some e f = join-onto false (b ∷ []) segments some

joined-from : (expand_dots unescaped : Bool) (text : List ℕ) → joined_bytes expand_dots (split_from unescaped text) ≡ rewritten_from (path_byte expand_dots) unescaped text
joined-from expand_dots unescaped [] = refl
joined-from expand_dots unescaped (b ∷ bs) =
    byte_case unescaped expand_dots (eqb b 46) (eqb b 92) b (not_both b) (split_from (next unescaped b) bs) (split_from-not_nil (next unescaped b) bs) refl refl
    ∙ ap (λ l. path_byte expand_dots unescaped b ++ l) (joined-from expand_dots (next unescaped b) bs)

-- the segments of a path are joined by rewriting it
pub joined_path-is : (expand_dots : Bool) (path : List ℕ) → joined_path expand_dots path ≡ rewritten (path_byte expand_dots) path
joined_path-is expand_dots path =
    ap (joined_bytes expand_dots) (split-from path) ∙ joined-from expand_dots true path ∙ sym (rewritten-from (path_byte expand_dots) path)

segment_from : (expand_dots unescaped : Bool) (text : List ℕ) → rewritten_from (λ u b. expanded expand_dots b ∷ []) unescaped text ≡ map (expanded expand_dots) text
segment_from expand_dots unescaped [] = refl
segment_from expand_dots unescaped (b ∷ bs) = ap (λ l. expanded expand_dots b ∷ l) (segment_from expand_dots (next unescaped b) bs)

pub segment-is : (expand_dots : Bool) (text : List ℕ) → rewritten (λ u b. expanded expand_dots b ∷ []) text ≡ map (expanded expand_dots) text
segment-is expand_dots text = rewritten-from (λ u b. expanded expand_dots b ∷ []) text ∙ segment_from expand_dots true text

join-append : (l m : List (List ℕ)) → l ≢ [] → m ≢ [] → join_with_byte 1 (l ++ m) ≡ join_with_byte 1 l ++ 1 ∷ join_with_byte 1 m
join-append [] m h k = absurd (h refl)
join-append (x ∷ []) [] h k = absurd (k refl)
join-append (x ∷ []) (y ∷ m) h k = refl
join-append (x ∷ y ∷ l) m h k =
    ap (λ t. x ++ 1 ∷ t) (join-append (y ∷ l) m (λ e. cc) k) ∙ sym (append_assoc x (1 ∷ join_with_byte 1 (y ∷ l)) (1 ∷ join_with_byte 1 m))

-- the first segment and this many others
abbrev pub joined_with : {S : Type 0} → List ℕ → (S → List ℕ) → List S → ℕ → List ℕ
joined_with first bytes others n = join_with_byte 1 (first ∷ map bytes (take n others))

pub joined_with-more : {S : Type 0} (first : List ℕ) (bytes : S → List ℕ) (others : List S) (i : ℕ) (d : S) → i < length others → joined_with first bytes others (i + 1) ≡ joined_with first bytes others i ++ 1 ∷ bytes (get_or others i d)
joined_with-more first bytes others i d h =
    ap (λ l. join_with_byte 1 (first ∷ l)) (ap (map bytes) (take_more others i d h) ∙ map-append bytes (take i others) (get_or others i d ∷ []))
    ∙ join-append (first ∷ map bytes (take i others)) (bytes (get_or others i d) ∷ []) (λ e. cc) (λ e. cc)
