-- Lists that are open, each in the one before it, and the children that they have left.
use Rattle.std.proofs.Common.{◌≡◌, ◌↔◌, ℕ, suc, ◌+◌, ◌<◌, List, [], ◌∷◌, ◌++◌, length, Ok, Err, refl, sym, ap, subst, ◌∙◌, append_assoc, append-nil, arith}
use Rattle.std.proofs.lemmas.List.{length-append}
use Rattle.tv_base.specs.Source.{Failures}
use Rattle.tv_base.specs.Sink.{WritesBy}
use Rattle.tv_base.proofs.Written.{Written}
use Rattle.tv_format.specs.Short.{short, IsValue}
use Rattle.tv_format.specs.Tree.{Tree}
use Rattle.tv_format.specs.Version.{Version}
use Rattle.tv_value.proofs.ListChildren.{list_size}
use Rattle.tv_value.specs.Children.{Child, IsListOf, children_size}
use Rattle.tv_writer.specs.Children.{AreValues, HasHead, IsSingle, short_children, short_head, short_key_of}
use Rattle.tv_writer.specs.Error.{write_stop}
use Rattle.tv_writer.specs.declared.serializers.SerializeError.TheVariants.{Memory}
use Rattle.tv_writer.proofs.WriterSteps.{head_first, list_short, single_short, list_parts, list_value, single_value}

-- ---- children of two lists

short_append : (v : Version) (a b : List Child) → short_children v (a ++ b) ≡ short_children v a ++ short_children v b
short_append v [] b = refl
short_append v (c ∷ a) b =
    let others = short_children v a in
    let more = short_children v b in
    ap (λ z. short_key_of v c.0 ++ (short v c.1 ++ z)) (short_append v a b)
    ∙ ap (λ z. short_key_of v c.0 ++ z) (sym (append_assoc (short v c.1) others more)) ∙ sym (append_assoc (short_key_of v c.0) (short v c.1 ++ others) more)

values_append : (a b : List Child) → AreValues (a ++ b) ↔ (AreValues a × AreValues b)
values_append [] b = (λ h. (tt, h), λ h. h.1)
values_append (c ∷ a) b = let more = values_append a b in (λ h. (let both = more.0 h.1 in ((h.0, both.0), both.1)), λ h. (h.0.0, more.1 (h.0.1, h.1)))

size_append : (a b : List Child) → children_size (a ++ b) ≡ children_size a + children_size b
size_append [] b = omega arith
size_append (c ∷ a) b = omega (arith, size_append a b)

-- ---- the first child, which was met

-- its head is written, and then what it has in it, before the others
pub single_next : (v : Version) (t u : Tree) (others : List Child) → t ≡ u → IsSingle t → short v u ++ short_children v others ≡ short_head v t ++ short_children v others
single_next v t u others same is = ap (λ (z : List ℕ). z ++ short_children v others) (ap (short v) (sym same) ∙ single_short v t is)

pub list_next : (v : Version) (t u : Tree) (inner others : List Child) → t ≡ u → IsListOf inner t → short v u ++ short_children v others ≡ short_head v t ++ short_children v (inner ++ others)
list_next v t u inner others same is =
    ap (λ (z : List ℕ). z ++ short_children v others) (ap (short v) (sym same) ∙ list_short v inner t is) ∙ append_assoc (short_head v t) (short_children v inner) (short_children v others)
    ∙ ap (λ (z : List ℕ). short_head v t ++ z) (sym (short_append v inner others))

pub head_next : (v : Version) (t u : Tree) (others : List ℕ) → t ≡ u → short v u ++ others ≡ short_head v t ++ ((head_first v t).0 ++ others)
head_next v t u others same =
    let rest = head_first v t in
    ap (λ (z : List ℕ). z ++ others) (ap (short v) (sym same) ∙ rest.1) ∙ append_assoc (short_head v t) rest.0 others

-- its children have encodings
pub list_opens : (t : Tree) (inner others : List Child) → IsListOf inner t → IsValue t → AreValues others → AreValues (inner ++ others)
list_opens t inner others is value more = (values_append inner others).1 ((list_parts inner t is value).1, more)

-- where it has a head, the others decide
pub single_decides : (child : Child) (others : List Child) → IsSingle child.1 → HasHead child.1 → AreValues (child ∷ others) ↔ AreValues others
single_decides child others is h = (λ all. all.1, λ more. (single_value child.1 is h, more))

pub list_decides : (child : Child) (inner others : List Child) → IsListOf inner child.1 → HasHead child.1 → AreValues (child ∷ others) ↔ AreValues (inner ++ others)
list_decides child inner others is h = (
  λ all. list_opens child.1 inner others is all.0 all.1,
  λ all. (let both = (values_append inner others).0 all in (list_value inner child.1 is h both.0, both.1)),
)

-- what it has in it is less
pub list_smaller : (child : Child) (inner others : List Child) → IsListOf inner child.1 → suc (children_size (inner ++ others)) < children_size (child ∷ others)
list_smaller child inner others is = omega (arith, list_size inner child.1 is, size_append inner others)

-- ---- the lists

module _ {R : Type 0} (left : R → List Child) where
  -- the children that the lists around have left, the outermost first
  abbrev pub around_left : List R → List Child
  around_left [] = []
  around_left (outer ∷ inner) = around_left inner ++ left outer

  -- and first those of the innermost, which stands apart
  abbrev pub all_left : R → List R → List Child
  all_left list around = left list ++ around_left around

  pub alone_left : (list : R) (around : List R) → around ≡ [] → all_left list around ≡ left list
  alone_left list around alone = ap (λ (z : List R). left list ++ around_left z) alone ∙ append-nil (left list)

  innermost_left : (around : List R) (list : R) → around_left (around ++ list ∷ []) ≡ left list ++ around_left around
  innermost_left [] list = sym (append-nil (left list))
  innermost_left (outer ∷ inner) list = ap (λ (z : List Child). z ++ left outer) (innermost_left inner list) ∙ append_assoc (left list) (around_left inner) (left outer)

  -- the next child
  pub child_met : (list next : R) (around : List R) {child : Child} → left list ≡ child ∷ left next → all_left list around ≡ child ∷ all_left next around
  child_met list next around cut = ap (λ (z : List Child). z ++ around_left around) cut

  -- a list is opened
  pub list_opened : (inner next : R) (around more : List R) → more ≡ around ++ next ∷ [] → all_left inner more ≡ left inner ++ all_left next around
  list_opened inner next around more pushed = ap (λ (z : List Child). left inner ++ z) (ap around_left pushed ∙ innermost_left around next)

  pub opened_decides : (list next inner : R) (around more : List R) {child : Child} → left list ≡ child ∷ left next → IsListOf (left inner) child.1 → HasHead child.1 → more ≡ around ++ next ∷ [] → AreValues (all_left list around) ↔ AreValues (all_left inner more)
  opened_decides list next inner around more {child} cut is head pushed =
      let met = child_met list next around cut in
      let now = list_opened inner next around more pushed in
      let alike = list_decides child (left inner) (all_left next around) is head in
      (λ h. subst AreValues (sym now) (alike.0 (subst AreValues met h)), λ h. subst AreValues (sym met) (alike.1 (subst AreValues now h)))

  pub opened_valid : (list next inner : R) (around more : List R) {child : Child} → left list ≡ child ∷ left next → IsListOf (left inner) child.1 → more ≡ around ++ next ∷ [] → AreValues (all_left list around) → AreValues (all_left inner more)
  opened_valid list next inner around more {child} cut is pushed all =
      let parts = subst AreValues (child_met list next around cut) all in
      subst AreValues (sym (list_opened inner next around more pushed)) (list_opens child.1 (left inner) (all_left next around) is parts.0 parts.1)

  pub opened_next : (v : Version) (next inner : R) (around more : List R) (t u : Tree) → t ≡ u → IsListOf (left inner) t → more ≡ around ++ next ∷ []
      → short v u ++ short_children v (all_left next around) ≡ short_head v t ++ short_children v (all_left inner more)
  opened_next v next inner around more t u same is pushed =
      list_next v t u (left inner) (all_left next around) same is ∙ ap (λ (z : List Child). short_head v t ++ short_children v z) (sym (list_opened inner next around more pushed))

  pub opened_smaller : (list next inner : R) (around more : List R) {child : Child} → left list ≡ child ∷ left next → IsListOf (left inner) child.1 → more ≡ around ++ next ∷ []
      → children_size (all_left inner more) + length more < children_size (all_left list around) + length around
  opened_smaller list next inner around more {child} cut is pushed =
      let met = ap children_size (child_met list next around cut) in
      let now = ap children_size (list_opened inner next around more pushed) in
      omega (arith, met, now, list_smaller child (left inner) (all_left next around) is, ap length pushed, length-append around (next ∷ []))

  -- the innermost is passed, and the one around it is gone on with
  pub list_passed : (list outer : R) (around less : List R) → left list ≡ [] → around ≡ less ++ outer ∷ [] → all_left list around ≡ all_left outer less
  list_passed list outer around less none popped = ap (λ (z : List Child). z ++ around_left around) none ∙ ap around_left popped ∙ innermost_left less outer

  pub passed_smaller : (list outer : R) (around less : List R) → left list ≡ [] → around ≡ less ++ outer ∷ [] → children_size (all_left outer less) + length less < children_size (all_left list around) + length around
  passed_smaller list outer around less none popped =
      omega (arith, ap children_size (list_passed list outer around less none popped), ap length popped, length-append less (outer ∷ []))

-- ---- what was written in the end

-- memory was refused
pub Written-short : {S : Type 0} {is_known : S → Type 0} {held : S → List ℕ} {failures : S → Failures} {old now : S} {text rest : List ℕ} → Written is_known held failures old now text rest → WritesBy {T = Unit {0}} write_stop is_known held failures old now (Err Memory) (Ok text)
Written-short {rest = rest} h = record {
  appends = λ told. (h.done, (rest, h.parts), h.appended told);
  stays_known = h.stays_known;
  counts = h.counts;
}
