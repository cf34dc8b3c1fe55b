-- What is malformed after the parts that have come.
use Rattle.std.proofs.Common.{◌≡◌, ℕ, zero, suc, ◌+◌, ◌*◌, ◌%◌, ◌<◌, ◌≤◌, List, [], ◌∷◌, ◌++◌, length, map, refl, sym, ap, subst, ◌∙◌, append_assoc, length-append, arith, inl, inr, IsUtf8}
use Rattle.std.proofs.lemmas.List.{append-nil}
use Rattle.tv_base.specs.declared.cause.Cause.{Cause}
use Rattle.tv_base.specs.declared.cause.Cause.TheVariants.{NotUtf8, UnexpectedEnd}
use Rattle.tv_base.specs.Number.{VNum}
use Rattle.tv_base.specs.ErrorInPart.{InEach, ErrorInBytes, ErrorInText, ErrorInSized, bytes_end, in_sized, no_text}
use Rattle.tv_base.specs.Parts.{Each}
use Rattle.tv_format.specs.InputError.{Refusal, corrupted, corrupt, ErrorInKey, in_key, ErrorInValue, in_leaf, in_element, in_entry_key, in_entry, ErrorInPair, ErrorInDocument}
use Rattle.tv_format.specs.Encoding.{Key, EncodesElements, EncodesEntries, EncodesPair}
use Rattle.tv_format.specs.Tree.{Tree, elements, element_count, entries, entry_count, Entries, Document}
use Rattle.tv_format.specs.Version.{Version, V1, V2, V3}
use Rattle.tv_builder.specs.declared.kinds.BytesKind.{BytesKind}
use Rattle.tv_builder.specs.declared.kinds.BytesKind.TheVariants as kinds
use Rattle.tv_builder.specs.declared.kinds.ListKind.{ListKind}
use Rattle.tv_builder.specs.declared.kinds.ListKind.TheVariants as lists
use Rattle.tv_format.specs.declared.leaf_type.LeafType.TheVariants as leaves
use Rattle.tv_builder.specs.Behind.{pairs_parts, document_parts, open_parts, ErrorsBehind}
use Rattle.tv_builder.specs.Prefix.{EncodesPart, KeyHead}
use Rattle.tv_builder.specs.Kinds.{total, IsTextKind}
use Rattle.tv_builder.specs.Parts.{Part, field, value, bytes_head, some_bytes}
use Rattle.tv_builder.specs.State.{OpenList, in_lists, in_bytes, key_text, pairs_of, IsValueNext, IsKeyNext, AllAwait, AreLists, OthersAwait, HeadNext, key_parts, list_head, children_parts, list_parts, lists_parts}
use Rattle.tv_builder.proofs.Grammar.{each_split}

-- bytes of two parts, with others after them
behind_both : (whole a b rest : List ℕ) → whole ≡ a ++ b → a ++ (b ++ rest) ≡ whole ++ rest
behind_both whole a b rest e = sym (ap (λ z. z ++ rest) e ∙ append_assoc a b rest)

module _ (Legacy : List ℕ → Entries → Type 0) (L : List ℕ → Cause → Type 0) (v : Version) where
  abbrev R : List ℕ → Part → Type 0
  R whole p = EncodesPart Legacy v whole p

  abbrev VF : List ℕ → Refusal → Type 0
  VF whole r = ErrorInValue Legacy L v whole r

  -- ---- within a list

  elements_from : (ts : List Tree) (whole : List ℕ) → Each R whole (map value ts) → EncodesElements Legacy v whole (elements ts)
  elements_from [] whole p = p
  elements_from (t ∷ ts) whole p = record { prefix = p.prefix; rest = p.rest; joined = p.joined; first = p.first; second = elements_from ts p.rest p.second }

  -- each key with its value, where a key comes next
  entries_from : (ts : List Tree) (whole : List ℕ) → length ts % 2 ≡ 0 → Each R whole (key_parts ts) → EncodesEntries Legacy v whole (entries (pairs_of ts))
  entries_from [] whole even p = p
  entries_from (k ∷ []) whole even p = absurd (omega arith)
  entries_from (k ∷ t ∷ ts) whole even p =
      let q = p.second in
      record { prefix = p.prefix; rest = p.rest; joined = p.joined; first = p.first; second = record { prefix = q.prefix; rest = q.rest; joined = q.joined; first = q.first; second = entries_from ts q.rest (omega (arith, even)) q.second } }

  -- each key with its value, and the last key, where its value comes next
  record KeyBehind (ts : List Tree) (whole : List ℕ) : Type 0 where
    prefix : List ℕ
    last : List ℕ
    key : List ℕ
    joined : whole ≡ prefix ++ last
    encoded : EncodesEntries Legacy v prefix (entries (pairs_of ts))
    is_key : Key v last key

  key_behind : (ts : List Tree) (whole : List ℕ) → length ts % 2 ≡ 1 → Each R whole (key_parts ts) → KeyBehind ts whole
  key_behind [] whole odd p = absurd (omega arith)
  key_behind (k ∷ []) whole odd p = record { prefix = []; last = p.prefix; key = key_text k; joined = p.joined ∙ ap (λ z. p.prefix ++ z) p.second ∙ append-nil p.prefix; encoded = refl; is_key = p.first }
  key_behind (k ∷ t ∷ ts) whole odd p =
      let q = p.second in
      let b = key_behind ts q.rest (omega (arith, odd)) q.second in
      record {
        prefix = p.prefix ++ (q.prefix ++ b.prefix);
        last = b.last;
        key = b.key;
        joined = p.joined ∙ ap (λ z. p.prefix ++ z) (q.joined ∙ ap (λ z. q.prefix ++ z) b.joined ∙ sym (append_assoc q.prefix b.prefix b.last)) ∙ sym (append_assoc p.prefix (q.prefix ++ b.prefix) b.last);
        encoded = record { prefix = p.prefix; rest = q.prefix ++ b.prefix; joined = refl; first = p.first; second = record { prefix = q.prefix; rest = b.prefix; joined = refl; first = q.first; second = b.encoded } };
        is_key = b.is_key;
      }

  elements_counted : (ts : List Tree) → element_count (elements ts) ≡ length ts
  elements_counted [] = refl
  elements_counted (t ∷ ts) = omega (arith, elements_counted ts)

  entries_counted : (ts : List Tree) → 2 * entry_count (entries (pairs_of ts)) ≤ length ts
  entries_counted [] = omega arith
  entries_counted (k ∷ []) = omega arith
  entries_counted (k ∷ t ∷ ts) = omega (arith, entries_counted ts)

  -- bytes after a code
  coded_both : (code : ℕ) (whole prefix body rest after : List ℕ) → whole ≡ prefix ++ rest → prefix ≡ code ∷ body → code ∷ (body ++ (rest ++ after)) ≡ whole ++ after
  coded_both code whole prefix body rest after e f = sym (ap (λ z. z ++ after) (e ∙ ap (λ z. z ++ rest) f) ∙ ap (λ z. code ∷ z) (append_assoc body rest after))

  list_error : (kind : ListKind) (n : ℕ) (ts : List Tree) (bytes rest : List ℕ) (r : Refusal) → length ts < total kind n → IsValueNext kind (length ts) → Each R bytes (list_head kind n ∷ children_parts kind ts) → VF rest r
      → VF (bytes ++ rest) r
  list_error lists.Array n ts bytes rest r less next p h =
      subst (λ z. VF z r) (coded_both 12 bytes p.prefix p.first.body p.rest rest p.joined p.first.joined)
      (in_element n (elements ts) p.first.body p.rest rest refl p.first.encoded (elements_from ts p.rest p.second) (omega (arith, less, elements_counted ts)) h)
  list_error lists.Object n ts bytes rest r less next p h =
      let b = key_behind ts p.rest next p.second in
      subst (λ z. VF z r) (coded_both 13 bytes p.prefix p.first.body p.rest rest p.joined p.first.joined)
      (in_entry n (entries (pairs_of ts)) b.key p.first.body b.prefix b.last rest (ap (λ z. p.first.body ++ z) (ap (λ z. z ++ rest) b.joined ∙ append_assoc b.prefix b.last rest)) p.first.encoded b.encoded
      (omega (arith, less, entries_counted ts, next)) b.is_key h)

  list_key_error : (kind : ListKind) (n : ℕ) (ts : List Tree) (bytes rest : List ℕ) (r : Refusal) → length ts < total kind n → IsKeyNext kind (length ts) → Each R bytes (list_head kind n ∷ children_parts kind ts)
      → ErrorInKey v rest r → VF (bytes ++ rest) r
  list_key_error lists.Array n ts bytes rest r less next p h = absurd next
  list_key_error lists.Object n ts bytes rest r less next p h =
      subst (λ z. VF z r) (coded_both 13 bytes p.prefix p.first.body p.rest rest p.joined p.first.joined)
      (in_entry_key n (entries (pairs_of ts)) p.first.body p.rest rest refl p.first.encoded (entries_from ts p.rest next p.second) (omega (arith, less, entries_counted ts)) h)

  -- within all open lists
  lists_error : (ls : List OpenList) (bytes rest : List ℕ) (r : Refusal) → AreLists ls → AllAwait ls → Each R bytes (lists_parts ls) → VF rest r → VF (bytes ++ rest) r
  lists_error [] bytes rest r are await p h = subst (λ z. VF (z ++ rest) r) (sym p) h
  lists_error (l ∷ ls) bytes rest r are await p h =
      let q = each_split R (lists_parts ls) (list_parts l) bytes p in
      subst (λ z. VF z r) (behind_both bytes q.prefix q.rest rest q.joined)
      (lists_error ls q.prefix (q.rest ++ rest) r are.1 await.1 q.first (list_error l.kind l.announced l.children q.rest rest r are.0.lacks await.0 q.second h))

  lists_key_error : (l : OpenList) (ls : List OpenList) (bytes rest : List ℕ) (r : Refusal) → AreLists (l ∷ ls) → AllAwait ls → IsKeyNext l.kind (length l.children) → Each R bytes (lists_parts (l ∷ ls)) → ErrorInKey v rest r
      → VF (bytes ++ rest) r
  lists_key_error l ls bytes rest r are await next p h =
      let q = each_split R (lists_parts ls) (list_parts l) bytes p in
      subst (λ z. VF z r) (behind_both bytes q.prefix q.rest rest q.joined)
      (lists_error ls q.prefix (q.rest ++ rest) r are.1 await q.first (list_key_error l.kind l.announced l.children q.rest rest r are.0.lacks next q.second h))

  -- ---- within a document

  -- after pairs that are finished
  pairs_error : (d : Document) (n : ℕ) (bytes rest : List ℕ) (r : Refusal) → length d < n → Each R bytes (pairs_parts d) → ErrorInPair Legacy L v rest r
      → InEach (ErrorInPair Legacy L v) (EncodesPair Legacy v) n (bytes ++ rest) r
  pairs_error [] zero bytes rest r less p h = absurd (omega arith)
  pairs_error [] (suc n) bytes rest r less p h = inl (subst (λ z. ErrorInPair Legacy L v (z ++ rest) r) (sym p) h)
  pairs_error (x ∷ d) zero bytes rest r less p h = absurd (omega arith)
  pairs_error (x ∷ d) (suc n) bytes rest r less p h = inr (
    x,
    record { prefix = p.prefix; rest = p.rest ++ rest; joined = sym (behind_both bytes p.prefix p.rest rest p.joined); first = p.first; second = pairs_error d n p.rest rest r (omega arith) p.second h },
  )

  -- after the number and the pairs
  document_error : (n : ℕ) (d : Document) (bytes rest : List ℕ) (r : Refusal) → length d < n → Each R bytes (document_parts n d) → ErrorInPair Legacy L v rest r → ErrorInDocument Legacy L v (bytes ++ rest) r
  document_error n d bytes rest r less p h = inr (
    n,
    record { prefix = p.prefix; rest = p.rest ++ rest; joined = sym (behind_both bytes p.prefix p.rest rest p.joined); first = p.first; second = pairs_error d n p.rest rest r less p.second h },
  )

  -- after a field and parts of its value
  open_error : (n : ℕ) (d : Document) (f : ℕ) (ps : List Part) (bytes rest : List ℕ) (r : Refusal) → length d < n → Each R bytes (document_parts n d ++ (field f ∷ ps))
      → ((b : List ℕ) → Each R b ps → VF (b ++ rest) r) → ErrorInDocument Legacy L v (bytes ++ rest) r
  open_error n d f ps bytes rest r less p h =
      let q = each_split R (document_parts n d) (field f ∷ ps) bytes p in
      let s = q.second in
      subst (λ z. ErrorInDocument Legacy L v z r) (behind_both bytes q.prefix q.rest rest q.joined)
      (document_error n d q.prefix (q.rest ++ rest) r less q.first (inr (
        f,
        record { prefix = s.prefix; rest = s.rest ++ rest; joined = sym (behind_both q.rest s.prefix s.rest rest s.joined); first = s.first; second = h s.rest s.second },
      )))

  -- ---- by what is awaited

  pub field_errors : (n : ℕ) (d : Document) (rest : List ℕ) (c : Cause) → length d < n → ErrorInBytes 4 rest c → ErrorsBehind Legacy L v (document_parts n d) rest (corrupted c)
  field_errors n d rest c less h = λ bytes p. document_error n d bytes rest (corrupted c) less p (inl (corrupt h))

  pub value_errors : (n : ℕ) (d : Document) (f : ℕ) (ls : List OpenList) (rest : List ℕ) (r : Refusal) → length d < n → AreLists ls → AllAwait ls → VF rest r
      → ErrorsBehind Legacy L v (open_parts n d f (in_lists ls)) rest r
  value_errors n d f ls rest r less are await h = λ bytes p. open_error n d f (lists_parts ls) bytes rest r less p (λ b q. lists_error ls b rest r are await q h)

  pub key_errors : (n : ℕ) (d : Document) (f : ℕ) (l : OpenList) (ls : List OpenList) (rest : List ℕ) (r : Refusal) → length d < n → AreLists (l ∷ ls) → AllAwait ls
      → IsKeyNext l.kind (length l.children) → ErrorInKey v rest r → ErrorsBehind Legacy L v (open_parts n d f (in_lists (l ∷ ls))) rest r
  key_errors n d f l ls rest r less are await next h = λ bytes p. open_error n d f (lists_parts (l ∷ ls)) bytes rest r less p (λ b q. lists_key_error l ls b rest r are await next q h)

  -- ---- after open bytes

  -- the bytes so far, after their length
  content_is : (kind : BytesKind) (m : ℕ) (bs b : List ℕ) (p : Each R b (bytes_head kind m ∷ some_bytes bs ∷ [])) → p.rest ≡ bs
  content_is kind m bs b p = p.second.joined ∙ ap (λ z. p.second.prefix ++ z) p.second.second ∙ append-nil p.second.prefix ∙ p.second.first

  -- the bytes end before this many have come
  sized_ends : (m : ℕ) (body bs rest : List ℕ) → VNum body m → length bs + length rest < m → ErrorInSized (body ++ (bs ++ rest)) UnexpectedEnd
  sized_ends m body bs rest h less = inr (m, record { prefix = body; rest = bs ++ rest; joined = refl; first = h; second = bytes_end (omega (arith, less, length-append bs rest)) })

  -- this many have come, and they are no text
  text_is_none : (m : ℕ) (body bs piece rest : List ℕ) → VNum body m → length bs + length piece ≡ m → ¬ IsUtf8 (bs ++ piece) → ErrorInText (body ++ (bs ++ (piece ++ rest))) NotUtf8
  text_is_none m body bs piece rest h full none =
      no_text (bs ++ piece) (body ++ (bs ++ piece)) rest (ap (λ z. body ++ z) (sym (append_assoc bs piece rest)) ∙ sym (append_assoc body (bs ++ piece) rest))
      (record { size = body; joined = refl; number = subst (λ k. VNum body k) (sym (length-append bs piece ∙ full)) h }) none

  -- an error after the head and the bytes so far: of a value, or of a key
  abbrev ErrorsIn : BytesKind → List ℕ → Refusal → Type 0
  ErrorsIn kinds.Str whole r = VF whole r
  ErrorsIn kinds.Facet whole r = VF whole r
  ErrorsIn kinds.Bytes whole r = VF whole r
  ErrorsIn kinds.Key whole r = ErrorInKey v whole r

  bytes_error : (n : ℕ) (d : Document) (f : ℕ) (kind : BytesKind) (ls : List OpenList) (m : ℕ) (bs rest : List ℕ) (r : Refusal) → length d < n → AreLists ls → OthersAwait ls → HeadNext kind ls
      → ((b : List ℕ) → Each R b (bytes_head kind m ∷ some_bytes bs ∷ []) → ErrorsIn kind (b ++ rest) r) → ErrorsBehind Legacy L v (open_parts n d f (in_bytes ls kind m bs)) rest r
  bytes_error n d f kind ls m bs rest r less are others next h = λ bytes p. open_error n d f (lists_parts ls ++ (bytes_head kind m ∷ some_bytes bs ∷ [])) bytes rest r less p (λ b q.
      let s = each_split R (lists_parts ls) (bytes_head kind m ∷ some_bytes bs ∷ []) b q in
      subst (λ z. VF z r) (behind_both b s.prefix s.rest rest s.joined) (within kind ls s.prefix (s.rest ++ rest) are others next s.first (h s.rest s.second)))
    where
      within : (kind : BytesKind) (ls : List OpenList) (prefix rest : List ℕ) → AreLists ls → OthersAwait ls → HeadNext kind ls → Each R prefix (lists_parts ls) → ErrorsIn kind rest r → VF (prefix ++ rest) r
      within kinds.Str ls prefix rest are others next p h = lists_error ls prefix rest r are next p h
      within kinds.Facet ls prefix rest are others next p h = lists_error ls prefix rest r are next p h
      within kinds.Bytes ls prefix rest are others next p h = lists_error ls prefix rest r are next p h
      within kinds.Key [] prefix rest are others next p h = absurd next
      within kinds.Key (l ∷ ls) prefix rest are others next p h = lists_key_error l ls prefix rest r are others next p h

  -- of a key, whose code depends on the version
  key_error : (w : Version) (m : ℕ) (b prefix behind rest : List ℕ) (c : Cause) → b ≡ prefix ++ behind → KeyHead w prefix m → ((body : List ℕ) → VNum body m → ErrorInText (body ++ (behind ++ rest)) c) → ErrorInKey w (b ++ rest) (corrupted c)
  key_error V1 m b prefix behind rest c e p h = subst (λ z. ErrorInKey V1 z (corrupted c)) (coded_both 0 b prefix p.body behind rest e p.joined) (in_key (h p.body p.encoded))
  key_error V2 m b prefix behind rest c e p h = subst (λ z. ErrorInKey V2 z (corrupted c)) (coded_both 0 b prefix p.body behind rest e p.joined) (in_key (h p.body p.encoded))
  key_error V3 m b prefix behind rest c e p h = subst (λ z. ErrorInKey V3 z (corrupted c)) (behind_both b prefix behind rest e) (corrupt (h prefix p))

  -- a malformed text after the head
  in_head : (kind : BytesKind) (m : ℕ) (bs b rest : List ℕ) (c : Cause) → IsTextKind kind → (p : Each R b (bytes_head kind m ∷ some_bytes bs ∷ []))
      → ((body : List ℕ) → VNum body m → ErrorInText (body ++ (p.rest ++ rest)) c) → ErrorsIn kind (b ++ rest) (corrupted c)
  in_head kinds.Str m bs b rest c is p h = subst (λ z. VF z (corrupted c)) (coded_both 0 b p.prefix p.first.body p.rest rest p.joined p.first.joined) (in_leaf (record { of_type = leaves.Str; coded = refl; error = h p.first.body p.first.encoded }))
  in_head kinds.Facet m bs b rest c is p h = subst (λ z. VF z (corrupted c)) (coded_both 3 b p.prefix p.first.body p.rest rest p.joined p.first.joined) (in_leaf (record { of_type = leaves.Facet; coded = refl; error = h p.first.body p.first.encoded }))
  in_head kinds.Bytes m bs b rest c is p h = absurd is
  in_head kinds.Key m bs b rest c is p h = key_error v m b p.prefix p.rest rest c p.joined p.first h

  head_ends : (kind : BytesKind) (m : ℕ) (bs rest : List ℕ) → length bs + length rest < m → (b : List ℕ) → Each R b (bytes_head kind m ∷ some_bytes bs ∷ []) → ErrorsIn kind (b ++ rest) (corrupted UnexpectedEnd)
  head_ends kinds.Bytes m bs rest less b p =
      subst (λ z. VF z (corrupted UnexpectedEnd)) (coded_both 4 b p.prefix p.first.body p.rest rest p.joined p.first.joined)
      (in_leaf (record { of_type = leaves.Bytes; coded = refl; error = sized_ends m p.first.body p.rest rest p.first.encoded (omega (arith, less, ap length (content_is kinds.Bytes m bs b p))) }))
  head_ends kinds.Str m bs rest less b p = in_head kinds.Str m bs b rest UnexpectedEnd _ p (λ body h. in_sized (sized_ends m body p.rest rest h (omega (arith, less, ap length (content_is kinds.Str m bs b p)))))
  head_ends kinds.Facet m bs rest less b p = in_head kinds.Facet m bs b rest UnexpectedEnd _ p (λ body h. in_sized (sized_ends m body p.rest rest h (omega (arith, less, ap length (content_is kinds.Facet m bs b p)))))
  head_ends kinds.Key m bs rest less b p = in_head kinds.Key m bs b rest UnexpectedEnd _ p (λ body h. in_sized (sized_ends m body p.rest rest h (omega (arith, less, ap length (content_is kinds.Key m bs b p)))))

  head_is_none : (kind : BytesKind) (m : ℕ) (bs piece rest : List ℕ) → IsTextKind kind → length bs + length piece ≡ m → ¬ IsUtf8 (bs ++ piece) → (b : List ℕ) → Each R b (bytes_head kind m ∷ some_bytes bs ∷ [])
      → ErrorsIn kind (b ++ (piece ++ rest)) (corrupted NotUtf8)
  head_is_none kind m bs piece rest is full none b p =
      let content = content_is kind m bs b p in
      in_head kind m bs b (piece ++ rest) NotUtf8 is p
      (λ body h. text_is_none m body p.rest piece rest h (omega (arith, full, ap length content)) (subst (λ z. ¬ IsUtf8 (z ++ piece)) (sym content) none))

  -- the bytes end before this many have come
  pub end_errors : (n : ℕ) (d : Document) (f : ℕ) (kind : BytesKind) (ls : List OpenList) (m : ℕ) (bs rest : List ℕ) → length d < n → AreLists ls → OthersAwait ls → HeadNext kind ls → length bs + length rest < m
      → ErrorsBehind Legacy L v (open_parts n d f (in_bytes ls kind m bs)) rest (corrupted UnexpectedEnd)
  end_errors n d f kind ls m bs rest less are others next short = bytes_error n d f kind ls m bs rest (corrupted UnexpectedEnd) less are others next (λ b p. head_ends kind m bs rest short b p)

  -- all have come, and are no text
  pub text_errors : (n : ℕ) (d : Document) (f : ℕ) (kind : BytesKind) (ls : List OpenList) (m : ℕ) (bs piece rest : List ℕ) → length d < n → AreLists ls → OthersAwait ls → HeadNext kind ls → IsTextKind kind
      → length bs + length piece ≡ m → ¬ IsUtf8 (bs ++ piece) → ErrorsBehind Legacy L v (open_parts n d f (in_bytes ls kind m bs)) (piece ++ rest) (corrupted NotUtf8)
  text_errors n d f kind ls m bs piece rest less are others next is full none = bytes_error n d f kind ls m bs (piece ++ rest) (corrupted NotUtf8) less are others next (λ b p. head_is_none kind m bs piece rest is full none b p)
