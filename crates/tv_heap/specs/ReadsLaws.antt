-- One type and address reads as one tree at most.
use Rattle.std.specs.Prelude.{◌≡◌, ℕ, ◌<◌, ◌^◌, Bool, true, false, List, ◌∷◌, ◌++◌, length, refl}
use Rattle.std.proofs.Common.{sym, ◌∙◌, ap, subst, arith}
use Rattle.std.proofs.lemmas.List.{append_cancel_left}
use Rattle.tv_base.specs.Number.{vnum}
use Rattle.tv_base.specs.Parts.{Sized}
use Rattle.tv_base.proofs.Agreement.{Agree}
use Rattle.tv_base.proofs.Numbers.{one_number, vnum_encodes, agree_fixed}
use Rattle.tv_base.proofs.Texts.{same_prefix, agree_sized, agree_signed}
use Rattle.tv_format.specs.Content.{Content, no_content, truth_content, unsigned_content, signed_content}
use Rattle.tv_format.specs.Content.{wide_content, text_content, bytes_content, tokens_content, form_of}
use Rattle.tv_format.specs.Leaves.{type_of, content, form}
use Rattle.tv_format.specs.LeavesLaws.{form_of_content, one_heap_code, small_heap_code}
use Rattle.tv_format.specs.LeavesLaws.{one_leaf as leaf_of_parts}
use Rattle.tv_format.specs.Tree.{Token, Leaf, tokenized, Tree, leaf, array, object, Elements, no_elements}
use Rattle.tv_format.specs.Tree.{element, Entries, no_entries, entry}
use Rattle.tv_format.specs.Encoding.{Tokenized}
use Rattle.tv_format.proofs.Leaves.{agree_tokenized}
use Rattle.tv_format.proofs.ShortEncodings.{tokenized_of}
use Rattle.tv_heap.specs.Reads.{Stands, ShortSized, ShortText, ShortTokenized, leaf_type_byte, flag}
use Rattle.tv_heap.specs.Reads.{ContentStands, LeafStands, ListedChild, ReadsTree, ReadsElements}
use Rattle.tv_heap.specs.Reads.{ReadsEntries}

-- two cuts of one list at one place
one_place : (b c x y : List ℕ) → length b ≡ length c → b ++ x ≡ c ++ y → x ≡ y
one_place b c x y l e = let s = same_prefix b c x y l e in
    append_cancel_left c x y (ap (λ z. z ++ x) (sym s) ∙ e)

stands_agree : {P Q : List ℕ → Type 0} {C : Type 0} {heap : List ℕ} {at : ℕ} → Agree P Q C → Stands heap at P
    → Stands heap at Q → C
stands_agree r p q = (r.agree p.whole q.whole p.behind q.behind p.stands q.stands
    (one_place p.before q.before _ _ (p.place ∙ sym q.place) (sym p.joined ∙ q.joined))).1

as_sized : (s w : List ℕ) → ShortSized s w → Sized w s
as_sized s w p = record {
  size = vnum (length s);
  joined = p.is;
  number = vnum_encodes (length s) (omega (arith, p.fits));
}

agree_short : (s t : List ℕ) → Agree (λ w. ShortSized s w) (λ w. ShortSized t w) (s ≡ t)
agree_short s t = record {
  agree = λ a b x y p q e. (agree_sized s t).agree a b x y (as_sized s a p)
      (as_sized t b q) e;
}

agree_short_text : (s t : List ℕ) → Agree (λ w. ShortText s w) (λ w. ShortText t w) (s ≡ t)
agree_short_text s t = record { agree = λ a b x y p q e. (agree_short s t).agree a b x y p.sized q.sized e }

agree_short_tokenized : (s t : List ℕ) (ss ts : List Token)
    → Agree (λ w. ShortTokenized s ss w) (λ w. ShortTokenized t ts w) (tokenized s ss ≡ tokenized t ts)
agree_short_tokenized s t ss ts = record {
  agree = λ a b x y p q e.
      (agree_tokenized s t ss ts).agree a b x y
      (subst (λ w. Tokenized w s ss) (sym p.is) (tokenized_of s ss p.content_fits p.tokens_fit))
      (subst (λ w. Tokenized w t ts) (sym q.is) (tokenized_of t ts q.content_fits q.tokens_fit)) e;
}

one_flag : (b c : Bool) → flag b ≡ flag c → b ≡ c
one_flag false false e = refl
one_flag true true e = refl
one_flag _ _ e = absurd (omega arith)

one_content : (heap : List ℕ) (at : ℕ) (c d : Content) → form_of c ≡ form_of d → ContentStands heap at c
    → ContentStands heap at d → c ≡ d
one_content heap at no_content no_content e p q = refl
one_content heap at (truth_content b) (truth_content c) e p q = ap truth_content (one_flag b c (sym p ∙ q))
one_content heap at (unsigned_content m) (unsigned_content n) e p q =
    ap unsigned_content (stands_agree (agree_fixed 8 m n) p q)
one_content heap at (signed_content y) (signed_content z) e p q =
    ap signed_content (stands_agree (agree_signed y z) p q)
one_content heap at (wide_content m) (wide_content n) e p q =
    ap wide_content (stands_agree (agree_fixed 16 m n) p q)
one_content heap at (text_content s) (text_content t) e p q =
    ap text_content (stands_agree (agree_short_text s t) p q)
one_content heap at (bytes_content s) (bytes_content t) e p q =
    ap bytes_content (stands_agree (agree_short s t) p q)
one_content heap at (tokens_content s ss) (tokens_content t ts) e p q =
    ap content (stands_agree (agree_short_tokenized s t ss ts) p q)
one_content heap at _ _ e p q = absurd (cc)

pub one_leaf : (heap : List ℕ) (at : ℕ) (l m : Leaf) → leaf_type_byte l ≡ leaf_type_byte m
    → LeafStands heap at l → LeafStands heap at m → l ≡ m
one_leaf heap at l m e p q =
    let same = one_heap_code (type_of l) (type_of m) e in
    leaf_of_parts l m same (one_content heap at (content l) (content m)
    (form_of_content l ∙ ap form same ∙ sym (form_of_content m)) p q)

pub leaf_type_small : (l : Leaf) → leaf_type_byte l < 11
leaf_type_small l = small_heap_code (type_of l)

-- two children that stand first in one list
pub one_child : (c d m n : ℕ) (x y whole : List ℕ) → m < 2 ^ 32 → n < 2 ^ 32 → whole ≡ c ∷ (vnum m ++ x)
    → whole ≡ d ∷ (vnum n ++ y) → (c ≡ d) × (m ≡ n) × (x ≡ y)
one_child c d m n x y whole f g p q =
    let e : c ∷ (vnum m ++ x) ≡ d ∷ (vnum n ++ y) = sym p ∙ q in
    let code : c ≡ d = cc in
    let left : vnum m ++ x ≡ vnum n ++ y = cc in
    let r = one_number (vnum m) (vnum n) x y m n (vnum_encodes m (omega arith))
    (vnum_encodes n (omega arith)) left in
    (code, r.1, append_cancel_left (vnum n) x y (ap (λ z. z ++ x) (sym r.0) ∙ left))

mutual
  pub one_tree : (heap : List ℕ) (code at : ℕ) (t u : Tree) → ReadsTree heap code at t
      → ReadsTree heap code at u → t ≡ u
  one_tree heap code at (leaf l) (leaf m) p q = ap leaf (one_leaf heap at l m (sym p.0 ∙ q.0) p.1 q.1)
  one_tree heap code at (array ts) (array us) p q =
      let e : p.1.list ≡ q.1.list = stands_agree (agree_short _ _) p.1.stands q.1.stands in
      ap array (one_elements heap at at q.1.list ts us
      (subst (λ b. ReadsElements heap at b ts) e p.1.children) q.1.children)
  one_tree heap code at (object es) (object fs) p q =
      let e : p.1.list ≡ q.1.list = stands_agree (agree_short _ _) p.1.stands q.1.stands in
      ap object (one_entries heap at at q.1.list es fs
      (subst (λ b. ReadsEntries heap at b es) e p.1.children) q.1.children)
  one_tree heap code at (leaf l) (array us) p q = absurd (omega (arith, p.0, q.0, leaf_type_small l))
  one_tree heap code at (leaf l) (object fs) p q = absurd (omega (arith, p.0, q.0, leaf_type_small l))
  one_tree heap code at (array ts) (leaf m) p q = absurd (omega (arith, p.0, q.0, leaf_type_small m))
  one_tree heap code at (object es) (leaf m) p q = absurd (omega (arith, p.0, q.0, leaf_type_small m))
  one_tree heap code at (array ts) (object fs) p q = absurd (omega (arith, p.0, q.0))
  one_tree heap code at (object es) (array us) p q = absurd (omega (arith, p.0, q.0))

  pub one_elements : (heap : List ℕ) (a b : ℕ) (whole : List ℕ) (ts us : Elements)
      → ReadsElements heap a whole ts → ReadsElements heap b whole us → ts ≡ us
  one_elements heap a b whole no_elements no_elements p q = refl
  one_elements heap a b whole (element t ts) (element u us) p q =
      let same = one_child p.code q.code p.at q.at p.rest q.rest whole p.fits q.fits p.joined q.joined in
      let first = one_tree heap q.code q.at t u
      (subst (λ c. ReadsTree heap c q.at t) same.0
      (subst (λ m. ReadsTree heap p.code m t) same.1 p.reads)) q.reads in
      let others = one_elements heap a b q.rest ts us
      (subst (λ r. ReadsElements heap a r ts) same.2 p.others) q.others in
      λ i. element (first i) (others i)
  one_elements heap a b whole no_elements (element u us) p q = let e = sym p ∙ q.joined in absurd (cc)
  one_elements heap a b whole (element t ts) no_elements p q = let e = sym q ∙ p.joined in absurd (cc)

  pub one_entries : (heap : List ℕ) (a b : ℕ) (whole : List ℕ) (es fs : Entries)
      → ReadsEntries heap a whole es → ReadsEntries heap b whole fs → es ≡ fs
  one_entries heap a b whole no_entries no_entries p q = refl
  one_entries heap a b whole (entry k t es) (entry l u fs) p q =
      let same = one_child p.code q.code p.at q.at p.rest q.rest whole p.fits q.fits p.joined q.joined in
      let key : k ≡ l = stands_agree (agree_short_text k l)
      (subst (λ m. Stands heap m (λ w. ShortText k w)) same.1 p.reads.1) q.reads.1 in
      let pp = subst (λ r. ListedChild a (λ code at. ReadsTree heap code at t)
      (λ c. ReadsEntries heap a c es) r) same.2 p.others in
      let qq = q.others in
      let next = one_child pp.code qq.code pp.at qq.at pp.rest qq.rest q.rest pp.fits qq.fits pp.joined
      qq.joined in
      let value = one_tree heap qq.code qq.at t u
      (subst (λ c. ReadsTree heap c qq.at t) next.0
      (subst (λ m. ReadsTree heap pp.code m t) next.1 pp.reads)) qq.reads in
      let others = one_entries heap a b qq.rest es fs
      (subst (λ r. ReadsEntries heap a r es) next.2 pp.others) qq.others in
      λ i. entry (key i) (value i) (others i)
  one_entries heap a b whole no_entries (entry l u fs) p q = let e = sym p ∙ q.joined in absurd (cc)
  one_entries heap a b whole (entry k t es) no_entries p q = let e = sym q ∙ p.joined in absurd (cc)
