-- One element or entry more.
use Rattle.std.proofs.Common.{◌≡◌, ℕ, List, [], ◌∷◌, ◌++◌, length, refl, sym, ◌∙◌, ap, arith, append_assoc}
use Rattle.std.proofs.lemmas.List.{append-nil}
use Rattle.tv_format.specs.Encoding.{Key, Encodes, EncodesElements, EncodesEntries}
use Rattle.tv_format.specs.Tree.{Tree, elements, element_count, Entries, entries, entry_count}
use Rattle.tv_format.specs.Version.{Version}

pub elements-length : (ts : List Tree) → element_count (elements ts) ≡ length ts
elements-length [] = refl
elements-length (t ∷ ts) = omega (arith, elements-length ts)

pub encodes_push : (Legacy : List ℕ → Entries → Type 0) (v : Version) (ts : List Tree) (t : Tree) (a b : List ℕ) → EncodesElements Legacy v a (elements ts) → Encodes Legacy v b t → EncodesElements Legacy v (a ++ b) (elements (ts ++ t ∷ []))
encodes_push Legacy v [] t a b p q = record { prefix = b; rest = []; joined = ap (λ z. z ++ b) p ∙ sym (append-nil b); first = q; second = refl }
encodes_push Legacy v (u ∷ ts) t a b p q = record {
  prefix = p.prefix;
  rest = p.rest ++ b;
  joined = ap (λ z. z ++ b) p.joined ∙ append_assoc p.prefix p.rest b;
  first = p.first;
  second = encodes_push Legacy v ts t p.rest b p.second q;
}

-- entries

pub entries-length : (es : List (List ℕ × Tree)) → entry_count (entries es) ≡ length es
entries-length [] = refl
entries-length (e ∷ es) = omega (arith, entries-length es)

pub entries_push : (Legacy : List ℕ → Entries → Type 0) (v : Version) (es : List (List ℕ × Tree)) (k : List ℕ) (t : Tree) (a key b : List ℕ) → EncodesEntries Legacy v a (entries es) → Key v key k
    → Encodes Legacy v b t → EncodesEntries Legacy v (a ++ (key ++ b)) (entries (es ++ (k, t) ∷ []))
entries_push Legacy v [] k t a key b p q r =
    record { prefix = key; rest = b; joined = ap (λ z. z ++ (key ++ b)) p; first = q; second = record { prefix = b; rest = []; joined = sym (append-nil b); first = r; second = refl } }
entries_push Legacy v (e ∷ es) k t a key b p q r = record {
  prefix = p.prefix;
  rest = p.rest ++ (key ++ b);
  joined = ap (λ z. z ++ (key ++ b)) p.joined ∙ append_assoc p.prefix p.rest (key ++ b);
  first = p.first;
  second = record {
    prefix = p.second.prefix;
    rest = p.second.rest ++ (key ++ b);
    joined = ap (λ z. z ++ (key ++ b)) p.second.joined ∙ append_assoc p.second.prefix p.second.rest (key ++ b);
    first = p.second.first;
    second = entries_push Legacy v es k t p.second.rest key b p.second.second q r;
  };
}
