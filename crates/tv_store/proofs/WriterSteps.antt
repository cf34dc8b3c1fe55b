-- Values as they stand in a heap, and as they are written.
use Rattle.std.proofs.Common.{◌≡◌, ℕ, ◌≤◌, List, ◌∷◌, ◌++◌, length, refl, sym, ap, ◌∙◌, arith}
use Rattle.std.specs.Borrow.{Bor}
use Rattle.std.proofs.lemmas.List.{length-append}
use Rattle.tv_format.specs.Short.{short, short_elements, short_entries, short_key}
use Rattle.tv_format.specs.Tree.{tokenized, Tree, leaf, elements, entries}
use Rattle.tv_format.specs.Version.{Version}
use Rattle.tv_heap.specs.declared.value.Encoded.{Encoded}
use Rattle.tv_heap.specs.declared.value.Encoded.TheVariants as held
use Rattle.tv_heap.specs.Encoded.{IsTokenized, SaysTokenized}
use Rattle.tv_store.specs.Stored.{tree_written}

-- the first child, and the others
pub elements_parts : (v : Version) {all others : List Tree} {first : Tree} → all ≡ first ∷ others → short_elements v (elements all) ≡ short v first ++ short_elements v (elements others)
elements_parts v cut = ap (λ ts. short_elements v (elements ts)) cut

-- whose key is read in another way
pub entries_parts : (v : Version) {all others : List (List ℕ × Tree)} {first : List ℕ × Tree} {key : List ℕ} → all ≡ first ∷ others → key ≡ first.0
    → short_entries v (entries all) ≡ short_key v key ++ (short v first.1 ++ short_entries v (entries others))
entries_parts v {others = others} {first = first} cut same =
    ap (λ es. short_entries v (entries es)) cut ∙ ap (λ k. short_key v k ++ (short v first.1 ++ short_entries v (entries others))) (sym same)

-- ---- how many bytes are left to write

pub others_fewer : (v : Version) {all others : List Tree} {first : Tree} {n : ℕ} → all ≡ first ∷ others → length (short_elements v (elements all)) ≤ n → length (short_elements v (elements others)) ≤ n
others_fewer v {others = others} {first = first} cut most = omega (arith, most, ap length (elements_parts v cut), length-append (short v first) (short_elements v (elements others)))

pub entries_fewer : (v : Version) {all others : List (List ℕ × Tree)} {first : List ℕ × Tree} {n : ℕ} → all ≡ first ∷ others → length (short_entries v (entries all)) ≤ n → length (short_entries v (entries others)) ≤ n
entries_fewer v {others = others} {first = first} cut most =
    let whole = ap length (entries_parts v {key = first.0} cut refl) in
    let behind = length-append (short_key v first.0) (short v first.1 ++ short_entries v (entries others)) in
    omega (arith, most, whole, behind, length-append (short v first.1) (short_entries v (entries others)))

-- ---- what is left to write

-- the first value's bytes, and those of the others
pub elements_next : (v : Version) {all others : List Tree} {first : Tree} {bytes : List ℕ} → all ≡ first ∷ others → bytes ≡ short v first → short_elements v (elements all) ≡ bytes ++ short_elements v (elements others)
elements_next v {others = others} cut is = elements_parts v cut ∙ ap (λ (z : List ℕ). z ++ short_elements v (elements others)) (sym is)

-- ---- texts with their tokens

-- another value says nothing of tokens
pub says_no_tokens : (e : Encoded) → ((content : Bor (List ℕ)) → e ≡ held.Tokenized content → ⊥) → SaysTokenized e → ⊥
says_no_tokens (held.Tokenized content) none says = none content refl
says_no_tokens _ none says = says

-- a value without tokens is written as it is
pub plainly_written : (t : Tree) → (IsTokenized t → ⊥) → tree_written t ≡ t
plainly_written (leaf (tokenized t ts)) none = absurd (none tt)
plainly_written _ none = refl
