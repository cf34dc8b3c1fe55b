-- How items that are passed over make what was left.
use Rattle.std.proofs.Common.{◌≡◌, ◌⊎◌, ℕ, zero, suc, ◌-◌, ◌<◌, List, [], ◌∷◌, ◌++◌, length, reverse, refl, sym, ap, subst, ◌∙◌, arith, inl, inr, append_assoc}
use Rattle.std.proofs.lemmas.List.{append-nil, reverse-append}
use Rattle.tv_base.specs.Number.{VNum}
use Rattle.tv_base.specs.Parts.{Then, Each}
use Rattle.tv_base.specs.ErrorInPart.{InEach}
use Rattle.tv_format.specs.Encoding.{EncodesElements, EncodesEntries, EncodesPair}
use Rattle.tv_format.specs.ErrorInList.{ErrorInElements, ErrorInEntries, in_next_key, in_next_value}
use Rattle.tv_format.specs.InputError.{Refusal, ErrorInPair, in_element, in_entry_key, in_entry}
use Rattle.tv_format.specs.Tree.{array, object, Elements, no_elements, element, element_count, Entries, no_entries, entry, entry_count, Document}
use Rattle.tv_format.specs.Version.{Version, entry_total}
use Rattle.tv_reader.specs.Legacy.{Legacy, ErrorInLegacy}
use Rattle.tv_reader.specs.Trees.{NoValue}
use Rattle.tv_reader.proofs.BehindKinds.{value_ended}
use Rattle.tv_reader.proofs.TreeSteps.{key_error_ended, no_rest}
use Rattle.tv_reading.specs.Skip.{Before, ErrorBefore, IsValueEncoding, OpensList, IsItem, ErrorInItem, AreItems, ErrorInItems, AreLeft, ErrorInLeft, Passed}
use Rattle.tv_reading.specs.declared.items.ItemKind.{ItemKind}
use Rattle.tv_reading.specs.declared.items.ItemKind.TheVariants as kinds
use Rattle.tv_reading.specs.declared.items.ItemsLeft.{ItemsLeft}
use Rattle.tv_reading.proofs.Passing.{end, bytes_ended}

-- ---- errors of no bytes

before_ended : (v : Version) (kind : ItemKind) (r : Refusal) → ErrorBefore v kind [] r → r ≡ end
before_ended v kinds.Value r f = absurd f
before_ended v kinds.Entry r f = key_error_ended v [] r refl f
before_ended v kinds.Pair r f = bytes_ended 4 r f

pub item_ended : (v : Version) (kind : ItemKind) (r : Refusal) → ErrorInItem v kind [] r → r ≡ end
item_ended v kind r (inl f) = before_ended v kind r f
item_ended v kind r (inr p) = value_ended (no_rest p.prefix p.rest p.joined) p.second

items_ended : (v : Version) (kind : ItemKind) (E : List ℕ → Refusal → Type 0) → ((r : Refusal) → E [] r → r ≡ end) → (n : ℕ) (r : Refusal) → ErrorInItems v kind E n [] r → r ≡ end
items_ended v kind E ended zero r f = ended r f
items_ended v kind E ended (suc n) r (inl f) = item_ended v kind r f
items_ended v kind E ended (suc n) r (inr p) = items_ended v kind E ended n r (subst (λ l. ErrorInItems v kind E n l r) (no_rest p.prefix p.rest p.joined) p.second)

pub left_ended : (v : Version) (items : List ItemsLeft) (r : Refusal) → ErrorInLeft v items [] r → r ≡ end
left_ended v [] r f = absurd f
left_ended v (i ∷ outer) r f = items_ended v i.kind (ErrorInLeft v outer) (left_ended v outer) i.left r f

-- what stands before a value, and the value
pub opened_ended : (v : Version) (r : Refusal) → NoValue v [] r → r ≡ end
opened_ended v r f = value_ended refl f

-- ---- the items of an array

-- this many values, and what is after them
record Values (v : Version) (Rest : List ℕ → Type 0) (n : ℕ) (whole : List ℕ) : Type 0 where
  trees : Elements
  many : element_count trees ≡ n
  parts : Then (λ b. EncodesElements Legacy v b trees) Rest whole

of_item : (v : Version) (whole : List ℕ) → IsItem v kinds.Value whole → IsValueEncoding v whole
of_item v whole p = subst (IsValueEncoding v) (sym (p.joined ∙ ap (λ (l : List ℕ). l ++ p.rest) p.first)) p.second

values_of : (v : Version) (Rest : List ℕ → Type 0) (n : ℕ) (whole : List ℕ) → AreItems v kinds.Value Rest n whole → Values v Rest n whole
values_of v Rest zero whole p = record { trees = no_elements; many = refl; parts = record { prefix = []; rest = whole; joined = refl; first = refl; second = p } }
values_of v Rest (suc n) whole p =
    let t = of_item v p.prefix p.first in
    let q = values_of v Rest n p.rest p.second in
    record {
      trees = element t.0 q.trees;
      many = ap suc q.many;
      parts = record {
        prefix = p.prefix ++ q.parts.prefix;
        rest = q.parts.rest;
        joined = p.joined ∙ ap (λ (l : List ℕ). p.prefix ++ l) q.parts.joined ∙ sym (append_assoc p.prefix q.parts.prefix q.parts.rest);
        first = record { prefix = p.prefix; rest = q.parts.prefix; joined = refl; first = t.1; second = q.parts.first };
        second = q.parts.second;
      };
    }

of_item_error : (v : Version) (whole : List ℕ) (r : Refusal) → ErrorInItem v kinds.Value whole r → NoValue v whole r
of_item_error v whole r (inl f) = absurd f
of_item_error v whole r (inr p) = subst (λ l. NoValue v l r) (sym (p.joined ∙ ap (λ (l : List ℕ). l ++ p.rest) p.first)) p.second

value_errors : (v : Version) (E : List ℕ → Refusal → Type 0) (n : ℕ) (whole : List ℕ) (r : Refusal) → ErrorInItems v kinds.Value E n whole r → ErrorInElements Legacy ErrorInLegacy v n whole r ⊎ Values v (λ b. E b r) n whole
value_errors v E zero whole r f = inr (values_of v (λ b. E b r) zero whole f)
value_errors v E (suc n) whole r (inl f) = inl (record { before = no_elements; prefix = []; rest = whole; joined = refl; encoded = refl; fewer = omega arith; error = of_item_error v whole r f })
value_errors v E (suc n) whole r (inr p) =
    let t = of_item v p.prefix p.first in
    elim (value_errors v E n p.rest r p.second) [
      | inl f ↦ inl (record {
        before = element t.0 f.before;
        prefix = p.prefix ++ f.prefix;
        rest = f.rest;
        joined = p.joined ∙ ap (λ (l : List ℕ). p.prefix ++ l) f.joined ∙ sym (append_assoc p.prefix f.prefix f.rest);
        encoded = record { prefix = p.prefix; rest = f.prefix; joined = refl; first = t.1; second = f.encoded };
        fewer = omega (arith, f.fewer);
        error = f.error;
      })
      | inr q ↦ inr (record {
        trees = element t.0 q.trees;
        many = ap suc q.many;
        parts = record {
          prefix = p.prefix ++ q.parts.prefix;
          rest = q.parts.rest;
          joined = p.joined ∙ ap (λ (l : List ℕ). p.prefix ++ l) q.parts.joined ∙ sym (append_assoc p.prefix q.parts.prefix q.parts.rest);
          first = record { prefix = p.prefix; rest = q.parts.prefix; joined = refl; first = t.1; second = q.parts.first };
          second = q.parts.second;
        };
      })
    ]

-- ---- the items of an object

record Members (v : Version) (Rest : List ℕ → Type 0) (n : ℕ) (whole : List ℕ) : Type 0 where
  members : Entries
  many : entry_count members ≡ n
  parts : Then (λ b. EncodesEntries Legacy v b members) Rest whole

-- one more before them
more_members : (v : Version) (Rest : List ℕ → Type 0) (n : ℕ) (whole a b : List ℕ) → whole ≡ a ++ b → IsItem v kinds.Entry a → Members v Rest n b → Members v Rest (suc n) whole
more_members v Rest n whole a b joined p q = record {
  members = entry p.first.0 p.second.0 q.members;
  many = ap suc q.many;
  parts = record {
    prefix = a ++ q.parts.prefix;
    rest = q.parts.rest;
    joined = joined ∙ ap (λ (l : List ℕ). a ++ l) q.parts.joined ∙ sym (append_assoc a q.parts.prefix q.parts.rest);
    first = record {
      prefix = p.prefix;
      rest = p.rest ++ q.parts.prefix;
      joined = ap (λ (l : List ℕ). l ++ q.parts.prefix) p.joined ∙ append_assoc p.prefix p.rest q.parts.prefix;
      first = p.first.1;
      second = record { prefix = p.rest; rest = q.parts.prefix; joined = refl; first = p.second.1; second = q.parts.first };
    };
    second = q.parts.second;
  };
}

members_of : (v : Version) (Rest : List ℕ → Type 0) (n : ℕ) (whole : List ℕ) → AreItems v kinds.Entry Rest n whole → Members v Rest n whole
members_of v Rest zero whole p = record { members = no_entries; many = refl; parts = record { prefix = []; rest = whole; joined = refl; first = refl; second = p } }
members_of v Rest (suc n) whole p = more_members v Rest n whole p.prefix p.rest p.joined p.first (members_of v Rest n p.rest p.second)

of_entry_error : (v : Version) (n : ℕ) (whole : List ℕ) (r : Refusal) → ErrorInItem v kinds.Entry whole r → ErrorInEntries Legacy ErrorInLegacy v (suc n) whole r
of_entry_error v n whole r (inl f) = in_next_key no_entries [] whole refl refl (omega arith) f
of_entry_error v n whole r (inr p) = in_next_value no_entries p.first.0 [] p.prefix p.rest p.joined refl (omega arith) p.first.1 p.second

-- one more entry before those that are encoded
entry_first : (v : Version) (a b : List ℕ) (es : Entries) (p : IsItem v kinds.Entry a) → EncodesEntries Legacy v b es → EncodesEntries Legacy v (a ++ b) (entry p.first.0 p.second.0 es)
entry_first v a b es p q = record {
  prefix = p.prefix;
  rest = p.rest ++ b;
  joined = ap (λ (l : List ℕ). l ++ b) p.joined ∙ append_assoc p.prefix p.rest b;
  first = p.first.1;
  second = record { prefix = p.rest; rest = b; joined = refl; first = p.second.1; second = q };
}

more_entries : (v : Version) (n : ℕ) (whole a b : List ℕ) (r : Refusal) → whole ≡ a ++ b → IsItem v kinds.Entry a → ErrorInEntries Legacy ErrorInLegacy v n b r → ErrorInEntries Legacy ErrorInLegacy v (suc n) whole r
more_entries v n whole a b r joined p (in_next_key es prefix rest is encoded fewer f) =
    in_next_key (entry p.first.0 p.second.0 es) (a ++ prefix) rest (joined ∙ ap (λ (l : List ℕ). a ++ l) is ∙ sym (append_assoc a prefix rest)) (entry_first v a prefix es p encoded) (omega (arith, fewer)) f
more_entries v n whole a b r joined p (in_next_value es k prefix key rest is encoded fewer keyed f) =
    in_next_value (entry p.first.0 p.second.0 es) k (a ++ prefix) key rest (joined ∙ ap (λ (l : List ℕ). a ++ l) is ∙ sym (append_assoc a prefix (key ++ rest))) (entry_first v a prefix es p encoded) (omega (arith, fewer)) keyed f

entry_errors : (v : Version) (E : List ℕ → Refusal → Type 0) (n : ℕ) (whole : List ℕ) (r : Refusal) → ErrorInItems v kinds.Entry E n whole r → ErrorInEntries Legacy ErrorInLegacy v n whole r ⊎ Members v (λ b. E b r) n whole
entry_errors v E zero whole r f = inr (members_of v (λ b. E b r) zero whole f)
entry_errors v E (suc n) whole r (inl f) = inl (of_entry_error v n whole r f)
entry_errors v E (suc n) whole r (inr p) = elim (entry_errors v E n p.rest r p.second) [
  | inl f ↦ inl (more_entries v n whole p.prefix p.rest r p.joined p.first f)
  | inr q ↦ inr (more_members v (λ b. E b r) n whole p.prefix p.rest p.joined p.first q)
]

-- ---- a list as one value

-- its head, and this many items after it
array_closes : (v : Version) (Rest : List ℕ → Type 0) (n : ℕ) (head rest : List ℕ) → OpensList v head kinds.Value n → Values v Rest n rest → Then (IsValueEncoding v) Rest (head ++ rest)
array_closes v Rest n head rest h q = record {
  prefix = head ++ q.parts.prefix;
  rest = q.parts.rest;
  joined = ap (λ (l : List ℕ). head ++ l) q.parts.joined ∙ sym (append_assoc head q.parts.prefix q.parts.rest);
  first = (
    array q.trees,
    record {
      body = h.body ++ q.parts.prefix;
      joined = ap (λ (l : List ℕ). l ++ q.parts.prefix) h.joined;
      encoded = record { prefix = h.body; rest = q.parts.prefix; joined = refl; first = subst (VNum h.body) (sym q.many) h.encoded; second = q.parts.first };
    },
  );
  second = q.parts.second;
}

object_closes : (v : Version) (Rest : List ℕ → Type 0) (n : ℕ) (head rest : List ℕ) → OpensList v head kinds.Entry n → Members v Rest n rest → Then (IsValueEncoding v) Rest (head ++ rest)
object_closes v Rest n head rest h q = record {
  prefix = head ++ q.parts.prefix;
  rest = q.parts.rest;
  joined = ap (λ (l : List ℕ). head ++ l) q.parts.joined ∙ sym (append_assoc head q.parts.prefix q.parts.rest);
  first = (
    object q.members,
    inl (record {
      body = h.body ++ q.parts.prefix;
      joined = ap (λ (l : List ℕ). l ++ q.parts.prefix) h.joined;
      encoded = record { prefix = h.body; rest = q.parts.prefix; joined = refl; first = subst (λ m. VNum h.body (entry_total v m)) (sym q.many) h.encoded; second = q.parts.first };
    }),
  );
  second = q.parts.second;
}

pub list_closes : (v : Version) (Rest : List ℕ → Type 0) (kind : ItemKind) (n : ℕ) (head rest : List ℕ) → OpensList v head kind n → AreItems v kind Rest n rest → Then (IsValueEncoding v) Rest (head ++ rest)
list_closes v Rest kinds.Value n head rest h p = array_closes v Rest n head rest h (values_of v Rest n rest p)
list_closes v Rest kinds.Entry n head rest h p = object_closes v Rest n head rest h (members_of v Rest n rest p)
list_closes v Rest kinds.Pair n head rest h p = absurd h

elements_refused : (v : Version) (n : ℕ) (head body rest : List ℕ) (r : Refusal) → head ≡ 12 ∷ body → VNum body n → ErrorInElements Legacy ErrorInLegacy v n rest r → NoValue v (head ++ rest) r
elements_refused v n head body rest r is number f =
    subst (λ (l : List ℕ). NoValue v (l ++ rest) r) (sym is) (in_element n f.before body f.prefix f.rest (ap (λ (l : List ℕ). body ++ l) f.joined) number f.encoded f.fewer f.error)

entries_refused : (v : Version) (n : ℕ) (head body rest : List ℕ) (r : Refusal) → head ≡ 13 ∷ body → VNum body (entry_total v n) → ErrorInEntries Legacy ErrorInLegacy v n rest r → NoValue v (head ++ rest) r
entries_refused v n head body rest r is number (in_next_key es prefix more joined encoded fewer f) =
    subst (λ (l : List ℕ). NoValue v (l ++ rest) r) (sym is) (in_entry_key n es body prefix more (ap (λ (l : List ℕ). body ++ l) joined) number encoded fewer f)
entries_refused v n head body rest r is number (in_next_value es k prefix key more joined encoded fewer keyed f) =
    subst (λ (l : List ℕ). NoValue v (l ++ rest) r) (sym is) (in_entry n es k body prefix key more (ap (λ (l : List ℕ). body ++ l) joined) number encoded fewer keyed f)

-- what is wrong after its head is wrong in it, or after it
list_refused : (v : Version) (E : List ℕ → Refusal → Type 0) (kind : ItemKind) (n : ℕ) (head rest : List ℕ) (r : Refusal) → OpensList v head kind n → ErrorInItems v kind E n rest r → NoValue v (head ++ rest) r ⊎ Then (IsValueEncoding v) (λ b. E b r) (head ++ rest)
list_refused v E kinds.Value n head rest r h f = elim (value_errors v E n rest r f) [
  | inl g ↦ inl (elements_refused v n head h.body rest r h.joined h.encoded g)
  | inr q ↦ inr (array_closes v (λ b. E b r) n head rest h q)
]
list_refused v E kinds.Entry n head rest r h f = elim (entry_errors v E n rest r f) [
  | inl g ↦ inl (entries_refused v n head h.body rest r h.joined h.encoded g)
  | inr q ↦ inr (object_closes v (λ b. E b r) n head rest h q)
]
list_refused v E kinds.Pair n head rest r h f = absurd h

-- ---- what is left

pub none_passed : (v : Version) (items : List ItemsLeft) → Passed v items items []
none_passed v items = record { joins = λ rest h. h; refuses = λ rest r f. f }

pub passed_then : (v : Version) (first second third : List ItemsLeft) (a b : List ℕ) → Passed v first second a → Passed v second third b → Passed v first third (a ++ b)
passed_then v first second third a b p q = record {
  joins = λ rest h. subst (AreLeft v first) (sym (append_assoc a b rest)) (p.joins (b ++ rest) (q.joins rest h));
  refuses = λ rest r f. subst (λ l. ErrorInLeft v first l r) (sym (append_assoc a b rest)) (p.refuses (b ++ rest) r (q.refuses rest r f));
}

-- this many items of a kind
abbrev pub so_many : ItemKind → ℕ → ItemsLeft
so_many kind n = record { kind = kind; left = n }

-- a list that has none left
pub list_ends : (v : Version) (items : ItemsLeft) (outer : List ItemsLeft) → items.left ≡ 0 → Passed v (items ∷ outer) outer []
list_ends v items outer none = record {
  joins = λ rest h. subst (λ n. AreItems v items.kind (AreLeft v outer) n rest) (sym none) h;
  refuses = λ rest r f. subst (λ n. ErrorInItems v items.kind (ErrorInLeft v outer) n rest r) (sym none) f;
}

pub value_passed : (v : Version) (kind : ItemKind) (n : ℕ) (outer : List ItemsLeft) (taken : List ℕ) → IsItem v kind taken → Passed v (so_many kind (suc n) ∷ outer) (so_many kind n ∷ outer) taken
value_passed v kind n outer taken p = record {
  joins = λ rest h. record { prefix = taken; rest = rest; joined = refl; first = p; second = h };
  refuses = λ rest r f. inr (record { prefix = taken; rest = rest; joined = refl; first = p; second = f });
}

-- what stands before a value, and then the value and what is after it
item_then : (v : Version) (kind : ItemKind) (Rest : List ℕ → Type 0) (whole before more : List ℕ) → whole ≡ before ++ more → Before v kind before → Then (IsValueEncoding v) Rest more → Then (IsItem v kind) Rest whole
item_then v kind Rest whole before more joined b p = record {
  prefix = before ++ p.prefix;
  rest = p.rest;
  joined = joined ∙ ap (λ (l : List ℕ). before ++ l) p.joined ∙ sym (append_assoc before p.prefix p.rest);
  first = record { prefix = before; rest = p.prefix; joined = refl; first = b; second = p.first };
  second = p.second;
}

pub list_opened : (v : Version) (kind : ItemKind) (n : ℕ) (inner : ItemsLeft) (outer : List ItemsLeft) (taken : List ℕ) → Then (Before v kind) (λ b. OpensList v b inner.kind inner.left) taken
    → Passed v (so_many kind (suc n) ∷ outer) (inner ∷ so_many kind n ∷ outer) taken
list_opened v kind n inner outer taken p =
    let behind = λ (rest : List ℕ). ap (λ (l : List ℕ). l ++ rest) p.joined ∙ append_assoc p.prefix p.rest rest in
    record {
      joins = λ rest h. item_then v kind _ (taken ++ rest) p.prefix (p.rest ++ rest) (behind rest) p.first (list_closes v (AreItems v kind (AreLeft v outer) n) inner.kind inner.left p.rest rest p.second h);
      refuses = λ rest r f. elim (list_refused v (ErrorInItems v kind (ErrorInLeft v outer) n) inner.kind inner.left p.rest rest r p.second f) [
        | inl g ↦ inl (inr (record { prefix = p.prefix; rest = p.rest ++ rest; joined = behind rest; first = p.first; second = g }))
        | inr q ↦ inr (item_then v kind _ (taken ++ rest) p.prefix (p.rest ++ rest) (behind rest) p.first q)
      ];
    }

-- ---- the next item

-- a list that had none left was closed, and the one around it comes next
pub list_popped : (v : Version) (first : List ItemsLeft) (items : ItemsLeft) (outer : List ItemsLeft) (next : ItemsLeft) (more : List ItemsLeft) → items.left ≡ 0 → outer ≡ more ++ next ∷ [] → Passed v first (items ∷ reverse outer) [] → Passed v first (next ∷ reverse more) []
list_popped v first items outer next more none is p =
    let turned : reverse outer ≡ next ∷ reverse more = ap reverse is ∙ reverse-append more (next ∷ []) in
    passed_then v first (items ∷ reverse outer) (next ∷ reverse more) [] [] p (subst (λ (l : List ItemsLeft). Passed v (items ∷ reverse outer) l []) turned (list_ends v items (reverse outer) none))

pub nothing_left : (v : Version) (first : List ItemsLeft) (items : ItemsLeft) (outer : List ItemsLeft) → items.left ≡ 0 → length outer ≡ 0 → Passed v first (items ∷ reverse outer) [] → Passed v first [] []
nothing_left v first items [] none is p = passed_then v first (items ∷ []) [] [] [] p (list_ends v items [] none)
nothing_left v first items (o ∷ outer) none is p = absurd (omega (arith, is))

-- no list stands around the first
pub first_open : (v : Version) (first items : ItemsLeft) (outer : List ItemsLeft) (taken : List ℕ) → outer ≡ [] → Passed v (first ∷ []) (items ∷ []) taken → Passed v (first ∷ []) (items ∷ reverse outer) taken
first_open v first items outer taken none p = subst (λ (l : List ItemsLeft). Passed v (first ∷ []) (items ∷ reverse l) taken) (sym none) p

-- one of a list that has some left
pub item_taken : (v : Version) (first : List ItemsLeft) (items : ItemsLeft) (outer : List ItemsLeft) → 0 < items.left → Passed v first (items ∷ outer) [] → Passed v first (so_many items.kind (suc (items.left - 1)) ∷ outer) []
item_taken v first items outer some p =
    let is : items.left ≡ suc (items.left - 1) = omega (arith, some) in
    subst (λ n. Passed v first (so_many items.kind n ∷ outer) []) is p

-- the list around one that was opened is the innermost of those around it
pub list_pushed : (items : ItemsLeft) (outer more : List ItemsLeft) → more ≡ outer ++ items ∷ [] → items ∷ reverse outer ≡ reverse more
list_pushed items outer more is = sym (ap reverse is ∙ reverse-append outer (items ∷ []))

-- ---- one value, and the pairs of a document

pub one_value : (v : Version) (whole : List ℕ) → AreLeft v (so_many kinds.Value 1 ∷ []) whole → IsValueEncoding v whole
one_value v whole p = of_item v whole (subst (IsItem v kinds.Value) (sym (p.joined ∙ ap (λ (l : List ℕ). p.prefix ++ l) p.second ∙ append-nil p.prefix)) p.first)

pub one_value_error : (v : Version) (whole : List ℕ) (r : Refusal) → ErrorInLeft v (so_many kinds.Value 1 ∷ []) whole r → NoValue v whole r
one_value_error v whole r (inl f) = of_item_error v whole r f
one_value_error v whole r (inr p) = absurd p.second

pub pairs_of : (v : Version) (n : ℕ) (whole : List ℕ) → AreItems v kinds.Pair (AreLeft v []) n whole → (d : Document) × (length d ≡ n) × Each (EncodesPair Legacy v) whole d
pairs_of v zero whole p = ([], refl, p)
pairs_of v (suc n) whole p =
    let q = pairs_of v n p.rest p.second in
    let i = p.first in
    ((i.first.0, i.second.0) ∷ q.0, ap suc q.1, record { prefix = p.prefix; rest = p.rest; joined = p.joined; first = record { prefix = i.prefix; rest = i.rest; joined = i.joined; first = i.first.1; second = i.second.1 }; second = q.2 })

of_pair_error : (v : Version) (whole : List ℕ) (r : Refusal) → ErrorInItem v kinds.Pair whole r → ErrorInPair Legacy ErrorInLegacy v whole r
of_pair_error v whole r (inl f) = inl f
of_pair_error v whole r (inr p) = inr (p.first.0, record { prefix = p.prefix; rest = p.rest; joined = p.joined; first = p.first.1; second = p.second })

pub pair_errors : (v : Version) (n : ℕ) (whole : List ℕ) (r : Refusal) → ErrorInItems v kinds.Pair (ErrorInLeft v []) n whole r → InEach (ErrorInPair Legacy ErrorInLegacy v) (EncodesPair Legacy v) n whole r
pair_errors v zero whole r f = f
pair_errors v (suc n) whole r (inl f) = inl (of_pair_error v whole r f)
pair_errors v (suc n) whole r (inr p) =
    let i = p.first in
    inr ((i.first.0, i.second.0), record { prefix = p.prefix; rest = p.rest; joined = p.joined; first = record { prefix = i.prefix; rest = i.rest; joined = i.joined; first = i.first.1; second = i.second.1 }; second = pair_errors v n p.rest r p.second })
