-- Items that are passed over where they stand.
use Rattle.std.proofs.Common.{◌≡◌, ℕ, zero, suc, ◌+◌, ◌-◌, ◌<◌, ◌≤◌, List, [], ◌∷◌, ◌++◌, length, take, drop, get_or, Option, Some, None, IfSome, refl, sym, ap, subst, ◌∙◌, arith, inl, inr, append_assoc, length-append, take_at}
use Rattle.std.proofs.lemmas.List.{append-nil, length-take-le}
use Rattle.std.specs.Borrow.{Bor}
use Rattle.std.specs.Int.{w32, from_le_bytes}
use Rattle.tv_base.proofs.Widths.{fixed_4}
use Rattle.tv_base.specs.Number.{VNum}
use Rattle.tv_base.specs.Parts.{Begins}
use Rattle.tv_format.proofs.Prefixes.{begins_cut, begins_then, small_take}
use Rattle.tv_format.specs.Encoding.{Encodes, NoLegacy}
use Rattle.tv_format.specs.InputError.{Refusal}
use Rattle.tv_format.specs.Tree.{Leaf, leaf}
use Rattle.tv_format.specs.Version.{Version, entry_total}
use Rattle.tv_reading.specs.Skip.{Before, IsValueEncoding, IsItem, OpensList, AreItems, ErrorInItems, AreLeft, ErrorInLeft, BeginsItems, Passed}
use Rattle.tv_reading.specs.declared.items.ItemKind.{ItemKind}
use Rattle.tv_reading.specs.declared.items.ItemKind.TheVariants as kinds
use Rattle.tv_reading.proofs.Left.{so_many, list_closes}

-- ---- items one after the other

-- all that is left is nothing
abbrev pub Ends : List ℕ → Type 0
Ends whole = whole ≡ []

items_then : (v : Version) (kind : ItemKind) (Rest : List ℕ → Type 0) (n : ℕ) (a b : List ℕ) → AreItems v kind Ends n a → Rest b → AreItems v kind Rest n (a ++ b)
items_then v kind Rest zero a b none h = subst Rest (sym (ap (λ (l : List ℕ). l ++ b) none)) h
items_then v kind Rest (suc n) a b p h = record {
  prefix = p.prefix;
  rest = p.rest ++ b;
  joined = ap (λ (l : List ℕ). l ++ b) p.joined ∙ append_assoc p.prefix p.rest b;
  first = p.first;
  second = items_then v kind Rest n p.rest b p.second h;
}

errors_then : (v : Version) (kind : ItemKind) (E : List ℕ → Refusal → Type 0) (n : ℕ) (a b : List ℕ) (r : Refusal) → AreItems v kind Ends n a → E b r → ErrorInItems v kind E n (a ++ b) r
errors_then v kind E zero a b r none f = subst (λ l. E l r) (sym (ap (λ (l : List ℕ). l ++ b) none)) f
errors_then v kind E (suc n) a b r p f = inr (record {
  prefix = p.prefix;
  rest = p.rest ++ b;
  joined = ap (λ (l : List ℕ). l ++ b) p.joined ∙ append_assoc p.prefix p.rest b;
  first = p.first;
  second = errors_then v kind E n p.rest b r p.second f;
})

-- one number of them, and then another
items_joined : (v : Version) (kind : ItemKind) (Rest : List ℕ → Type 0) (n m : ℕ) (whole : List ℕ) → AreItems v kind (AreItems v kind Rest m) n whole → AreItems v kind Rest (n + m) whole
items_joined v kind Rest zero m whole p = subst (λ k. AreItems v kind Rest k whole) {x = m} (omega arith) p
items_joined v kind Rest (suc n) m whole p =
    let all : AreItems v kind Rest (suc (n + m)) whole = record { prefix = p.prefix; rest = p.rest; joined = p.joined; first = p.first; second = items_joined v kind Rest n m p.rest p.second } in
    subst (λ k. AreItems v kind Rest k whole) {x = suc (n + m)} (omega arith) all

errors_joined : (v : Version) (kind : ItemKind) (E : List ℕ → Refusal → Type 0) (n m : ℕ) (whole : List ℕ) (r : Refusal) → ErrorInItems v kind (ErrorInItems v kind E m) n whole r → ErrorInItems v kind E (n + m) whole r
errors_joined v kind E zero m whole r f = subst (λ k. ErrorInItems v kind E k whole r) {x = m} (omega arith) f
errors_joined v kind E (suc n) m whole r (inl f) =
    let one : ErrorInItems v kind E (suc (n + m)) whole r = inl f in
    subst (λ k. ErrorInItems v kind E k whole r) {x = suc (n + m)} (omega arith) one
errors_joined v kind E (suc n) m whole r (inr p) =
    let one : ErrorInItems v kind E (suc (n + m)) whole r = inr (record { prefix = p.prefix; rest = p.rest; joined = p.joined; first = p.first; second = errors_joined v kind E n m p.rest r p.second }) in
    subst (λ k. ErrorInItems v kind E k whole r) {x = suc (n + m)} (omega arith) one

many_passed : (v : Version) (kind : ItemKind) (n m : ℕ) (taken : List ℕ) → AreItems v kind Ends n taken → Passed v (so_many kind (n + m) ∷ []) (so_many kind m ∷ []) taken
many_passed v kind n m taken p = record {
  joins = λ rest h. items_joined v kind (AreLeft v []) n m (taken ++ rest) (items_then v kind (AreItems v kind (AreLeft v []) m) n taken rest p h);
  refuses = λ rest r f. errors_joined v kind (ErrorInLeft v []) n m (taken ++ rest) r (errors_then v kind (ErrorInItems v kind (ErrorInLeft v []) m) n taken rest r p f);
}

-- as many as stand at the start of bytes, of which just their bytes are taken
pub items_passed : (v : Version) (kind : ItemKind) (all n : ℕ) (whole rest a : List ℕ) → n ≤ all → BeginsItems v kind n whole rest → take (length whole - length rest) whole ≡ a → Passed v (so_many kind all ∷ []) (so_many kind (all - n) ∷ []) a
items_passed v kind all n whole rest a within p is =
    let same : a ≡ p.prefix = sym is ∙ ap (take (length whole - length rest)) p.joined ∙ take_at p.prefix rest (length whole - length rest) (omega (arith, ap length p.joined, length-append p.prefix rest)) in
    let sum : n + (all - n) ≡ all = omega (arith, within) in
    subst (λ m. Passed v (so_many kind m ∷ []) (so_many kind (all - n) ∷ []) a) sum
    (subst (λ l. Passed v (so_many kind (n + (all - n)) ∷ []) (so_many kind (all - n) ∷ []) l) (sym same) (many_passed v kind n (all - n) p.prefix p.encoded))

-- ---- at the start of bytes

pub one_more : (v : Version) (kind : ItemKind) (n : ℕ) (bytes rest value behind : List ℕ) → BeginsItems v kind n bytes rest → Begins (Before v kind) rest value → Begins (IsValueEncoding v) value behind → BeginsItems v kind (n + 1) bytes behind
one_more v kind n bytes rest value behind p before is =
    let item : Begins (IsItem v kind) rest behind = begins_then rest value behind before is in
    record {
      prefix = p.prefix ++ item.prefix;
      joined = p.joined ∙ ap (λ (l : List ℕ). p.prefix ++ l) item.joined ∙ sym (append_assoc p.prefix item.prefix behind);
      encoded = items_joined v kind Ends n 1 (p.prefix ++ item.prefix)
          (items_then v kind (AreItems v kind Ends 1) n p.prefix item.prefix p.encoded (record { prefix = item.prefix; rest = []; joined = sym (append-nil item.prefix); first = item.encoded; second = refl }));
    }

-- a list with its items is one value
list_begins : (v : Version) (code : ℕ) (kind : ItemKind) (n : ℕ) (bytes behind items rest : List ℕ) → bytes ≡ code ∷ behind → Begins (λ b. OpensList v (code ∷ b) kind n) behind items → BeginsItems v kind n items rest → Begins (IsValueEncoding v) bytes rest
list_begins v code kind n bytes behind items rest is head all =
    let p = list_closes v Ends kind n (code ∷ head.prefix) all.prefix head.encoded all.encoded in
    record {
      prefix = code ∷ (head.prefix ++ all.prefix);
      joined = is ∙ ap (λ (l : List ℕ). code ∷ l) (head.joined ∙ ap (λ (l : List ℕ). head.prefix ++ l) all.joined ∙ sym (append_assoc head.prefix all.prefix rest));
      encoded = subst (IsValueEncoding v) (sym (p.joined ∙ ap (λ (l : List ℕ). p.prefix ++ l) p.second ∙ append-nil p.prefix)) p.first;
    }

array_begins : (v : Version) (n : ℕ) (bytes behind items rest : List ℕ) → bytes ≡ 12 ∷ behind → Begins (λ b. VNum b n) behind items → BeginsItems v kinds.Value n items rest → Begins (IsValueEncoding v) bytes rest
array_begins v n bytes behind items rest is number all =
    list_begins v 12 kinds.Value n bytes behind items rest is (record { prefix = number.prefix; joined = number.joined; encoded = record { body = number.prefix; joined = refl; encoded = number.encoded } }) all

object_begins : (v : Version) (n : ℕ) (bytes behind items rest : List ℕ) → bytes ≡ 13 ∷ behind → Begins (λ b. VNum b (entry_total v n)) behind items → BeginsItems v kinds.Entry n items rest → Begins (IsValueEncoding v) bytes rest
object_begins v n bytes behind items rest is number all =
    list_begins v 13 kinds.Entry n bytes behind items rest is (record { prefix = number.prefix; joined = number.joined; encoded = record { body = number.prefix; joined = refl; encoded = number.encoded } }) all

pub leaf_is_value : (v : Version) (bytes rest : List ℕ) {P : Leaf → Type 0} → (l : Leaf) × P l × Begins (λ b. Encodes NoLegacy v b (leaf l)) bytes rest → Begins (IsValueEncoding v) bytes rest
leaf_is_value v bytes rest p = record { prefix = p.2.prefix; joined = p.2.joined; encoded = (leaf p.0, p.2.encoded) }

-- four bytes are a field
pub field_begins : (v : Version) (bytes prefix rest : List ℕ) → ((i : ℕ) → get_or bytes i 0 < 256) → prefix ≡ take 4 bytes → rest ≡ drop 4 bytes → 4 ≤ length bytes → Begins (Before v kinds.Pair) bytes rest
field_begins v bytes prefix rest small is after long =
    begins_cut (Before v kinds.Pair) 4 bytes (take 4 bytes) rest refl after (from_le_bytes w32 (take 4 bytes), fixed_4 (take 4 bytes) (length-take-le 4 bytes long) (small_take 4 bytes small))

-- what is after the items of a list is after the list
pub array_behind : (v : Version) (n : ℕ) (bytes behind items : List ℕ) (result : Option (Bor (List ℕ))) → bytes ≡ 12 ∷ behind → Begins (λ b. VNum b n) behind items → IfSome result (λ rest. BeginsItems v kinds.Value n items rest.now) → IfSome result (λ rest. Begins (IsValueEncoding v) bytes rest.now)
array_behind v n bytes behind items None is number all = tt
array_behind v n bytes behind items (Some rest) is number all = array_begins v n bytes behind items rest.now is number all

pub object_behind : (v : Version) (n : ℕ) (bytes behind items : List ℕ) (result : Option (Bor (List ℕ))) → bytes ≡ 13 ∷ behind → Begins (λ b. VNum b (entry_total v n)) behind items → IfSome result (λ rest. BeginsItems v kinds.Entry n items rest.now) → IfSome result (λ rest. Begins (IsValueEncoding v) bytes rest.now)
object_behind v n bytes behind items None is number all = tt
object_behind v n bytes behind items (Some rest) is number all = object_begins v n bytes behind items rest.now is number all
