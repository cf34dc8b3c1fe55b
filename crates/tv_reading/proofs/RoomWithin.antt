-- What has come of a document needs no more room than the document.
use Rattle.std.proofs.Common.{◌≡◌, ℕ, ◌+◌, ◌*◌, ◌%◌, ◌<◌, ◌≤◌, List, [], ◌∷◌, ◌++◌, length, map, refl, sym, ◌∙◌, ap, subst, append_assoc, arith, inl, inr}
use Rattle.std.proofs.lemmas.Bool.Decides.{eqb_tells}
use Rattle.std.proofs.lemmas.List.{append-nil}
use Rattle.tv_base.specs.Number.{VNum}
use Rattle.tv_base.specs.Parts.{OneReading, Behind, Each, Text, Sized}
use Rattle.tv_base.proofs.Numbers.{one_number, one_fixed}
use Rattle.tv_format.specs.Content.{Content, text_content, bytes_content, form_of}
use Rattle.tv_format.specs.Leaves.{type_of, content, form, store_code, scale}
use Rattle.tv_format.specs.LeavesLaws.{form_of_content, one_code, leaf_coded}
use Rattle.tv_format.specs.Encoding.{Key, Encodes, EncodesElements, EncodesEntries, EncodesPair, EncodesDocument, leaf_code, ContentBody}
use Rattle.tv_format.specs.Tree.{Tree, leaf, text, array, object, Elements, no_elements, element, element_count, Entries, no_entries, entry, entry_count, Document}
use Rattle.tv_format.specs.Version.{Version, V1, V2, V3, Scale, entry_total}
use Rattle.tv_format.specs.declared.leaf_type.LeafType.{LeafType}
use Rattle.tv_format.specs.declared.leaf_type.LeafType.TheVariants as types
use Rattle.tv_format.proofs.Leaves.{agree_key, total_same}
use Rattle.tv_format.proofs.Trees.{one_tree, one_pair}
use Rattle.tv_heap.specs.Room.{room, content_room, elements_room, entries_room, document_room}
use Rattle.tv_heap.proofs.ListRooms.{document_room-cons}
use Rattle.tv_builder.specs.declared.kinds.BytesKind.{BytesKind}
use Rattle.tv_builder.specs.declared.kinds.BytesKind.TheVariants as kinds
use Rattle.tv_builder.specs.declared.kinds.ListKind.{ListKind}
use Rattle.tv_builder.specs.declared.kinds.ListKind.TheVariants.{Array, Object}
use Rattle.tv_builder.specs.Behind.{pairs_parts, open_parts}
use Rattle.tv_builder.specs.Prefix.{KeyHead, EncodesPart}
use Rattle.tv_builder.specs.Kinds.{total}
use Rattle.tv_builder.specs.Parts.{Part, field, value, bytes_head, some_bytes}
use Rattle.tv_builder.specs.State.{OpenList, State, complete, in_lists, in_bytes, key_text, IsKeyLeaf, StartsWithKey, AreChildren, AreLists, IsValueNext, IsKeyNext, AllAwait, OthersAwait, HeadNext, IsState, key_parts, list_head, children_parts, list_parts, lists_parts, parts_of, finished_room, lists_room, state_room}
use Rattle.tv_builder.proofs.Grammar.{each_split}
use Rattle.tv_reader.specs.Heads.{HasLength}
use Rattle.tv_reader.proofs.Depths.{same_rest}

-- ---- lists of bytes

heads : (m n : ℕ) (a b : List ℕ) → m ∷ a ≡ n ∷ b → (m ≡ n) × (a ≡ b)
heads m n a b e = let code : m ≡ n = cc in let body : a ≡ b = cc in (code, body)

-- two cuts of the same bytes
pub both_cut : (c d p q s t x y : List ℕ) → c ≡ p ++ q → d ≡ s ++ t → c ++ x ≡ d ++ y → p ++ (q ++ x) ≡ s ++ (t ++ y)
both_cut c d p q s t x y f g e = sym (append_assoc p q x) ∙ ap (λ (z : List ℕ). z ++ x) (sym f) ∙ e ∙ ap (λ (z : List ℕ). z ++ y) g ∙ append_assoc s t y

-- the same after a code
behind_codes : (m n : ℕ) (c d p q a b x y : List ℕ) → c ≡ p ++ q → p ≡ m ∷ a → d ≡ n ∷ b → c ++ x ≡ d ++ y → (m ≡ n) × (a ++ (q ++ x) ≡ b ++ y)
behind_codes m n c d p q a b x y f g h e =
    heads m n (a ++ (q ++ x)) (b ++ y)
    (ap (λ (z : List ℕ). m ∷ z) (sym (append_assoc a q x)) ∙ ap (λ (z : List ℕ). (z ++ q) ++ x) (sym g) ∙ ap (λ (z : List ℕ). z ++ x) (sym f) ∙ e ∙ ap (λ (z : List ℕ). z ++ y) h)

-- a key's room is that of its text
key_room : (k : Tree) → IsKeyLeaf k → room k ≡ 5 + length (key_text k)
key_room (leaf (text content)) h = refl
key_room _ h = absurd h

-- two codes at the same place
coded : (m n : ℕ) (h b body rest x y : List ℕ) → h ≡ m ∷ body → b ≡ n ∷ rest → h ++ x ≡ b ++ y → (m ≡ n) × (body ++ x ≡ rest ++ y)
coded m n h b body rest x y f g e = heads m n (body ++ x) (rest ++ y) (ap (λ (z : List ℕ). z ++ x) (sym f) ∙ e ∙ ap (λ (z : List ℕ). z ++ y) g)

module _ (L : List ℕ → Entries → Type 0) (v : Version) (one_l : OneReading L) where
  abbrev R : List ℕ → Part → Type 0
  R b p = EncodesPart L v b p

  -- the bytes begin with this value
  record Starts (q : List ℕ) (u : Tree) : Type 0 where
    prefix : List ℕ
    rest : List ℕ
    joined : q ≡ prefix ++ rest
    encoded : Encodes L v prefix u

  -- ---- the next element

  record NextIn (q : List ℕ) (before within : ℕ) : Type 0 where
    next : Tree
    starts : Starts q next
    room_is : before + (6 + room next) ≤ within

  next_element : (ts : List Tree) (us : Elements) (c q d y : List ℕ) → Each R c (map value ts) → EncodesElements L v d us → length ts < element_count us → c ++ q ≡ d ++ y → NextIn q (finished_room ts) (elements_room us)
  next_element [] no_elements c q d y p s less e = absurd (omega (arith, less))
  next_element [] (element u us) c q d y p s less e = record {
    next = u;
    starts = record { prefix = s.prefix; rest = s.rest ++ y; joined = ap (λ (z : List ℕ). z ++ q) (sym p) ∙ e ∙ ap (λ (z : List ℕ). z ++ y) s.joined ∙ append_assoc s.prefix s.rest y; encoded = s.first };
    room_is = omega arith;
  }
  next_element (t ∷ ts) no_elements c q d y p s less e = absurd (omega (arith, less))
  next_element (t ∷ ts) (element u us) c q d y p s less e =
      let whole = both_cut c d p.prefix p.rest s.prefix s.rest q y p.joined s.joined e in
      let same = one_tree L v one_l p.prefix s.prefix (p.rest ++ q) (s.rest ++ y) t u p.first s.first whole in
      let n = next_element ts us p.rest q s.rest y p.second s.second (omega (arith, less)) (same_rest p.prefix s.prefix (p.rest ++ q) (s.rest ++ y) same.0 whole) in
      record { next = n.next; starts = n.starts; room_is = omega (arith, n.room_is, ap room same.1) }

  -- ---- the next value after a key

  next_behind_key : (ts : List Tree) (es : Entries) (c q d y : List ℕ) → StartsWithKey ts → length ts % 2 ≡ 1 → Each R c (key_parts ts) → EncodesEntries L v d es → length ts < 2 * entry_count es → c ++ q ≡ d ++ y
      → NextIn q (finished_room ts) (entries_room es)
  next_behind_key [] es c q d y are odd p s less e = absurd (omega (arith, odd))
  next_behind_key (k ∷ ts) no_entries c q d y are odd p s less e = absurd (omega (arith, less))
  next_behind_key (k ∷ []) (entry l u es) c q d y are odd p s less e =
      let whole = both_cut c d p.prefix p.rest s.prefix s.rest q y p.joined s.joined e in
      let same = (agree_key v (key_text k) l).agree p.prefix s.prefix (p.rest ++ q) (s.rest ++ y) p.first s.first whole in
      let rest = same_rest p.prefix s.prefix (p.rest ++ q) (s.rest ++ y) same.0 whole in
      let t = s.second in
      record {
        next = u;
        starts = record { prefix = t.prefix; rest = t.rest ++ y; joined = ap (λ (z : List ℕ). z ++ q) (sym p.second) ∙ rest ∙ ap (λ (z : List ℕ). z ++ y) t.joined ∙ append_assoc t.prefix t.rest y; encoded = t.first };
        room_is = omega (arith, key_room k are.0, ap length same.1);
      }
  next_behind_key (k ∷ t ∷ ts) (entry l u es) c q d y are odd p s less e =
      let whole = both_cut c d p.prefix p.rest s.prefix s.rest q y p.joined s.joined e in
      let same = (agree_key v (key_text k) l).agree p.prefix s.prefix (p.rest ++ q) (s.rest ++ y) p.first s.first whole in
      let rest = same_rest p.prefix s.prefix (p.rest ++ q) (s.rest ++ y) same.0 whole in
      let r = p.second in
      let o = s.second in
      let more = both_cut p.rest s.rest r.prefix r.rest o.prefix o.rest q y r.joined o.joined rest in
      let tree = one_tree L v one_l r.prefix o.prefix (r.rest ++ q) (o.rest ++ y) t u r.first o.first more in
      let n = next_behind_key ts es r.rest q o.rest y are.1 (omega (arith, odd)) r.second o.second (omega (arith, less)) (same_rest r.prefix o.prefix (r.rest ++ q) (o.rest ++ y) tree.0 more) in
      record { next = n.next; starts = n.starts; room_is = omega (arith, n.room_is, key_room k are.0, ap length same.1, ap room tree.1) }

  -- ---- the next key

  record NextKey (q : List ℕ) (before within : ℕ) : Type 0 where
    next : List ℕ
    prefix : List ℕ
    rest : List ℕ
    joined : q ≡ prefix ++ rest
    encoded : Key v prefix next
    room_is : before + (11 + length next) ≤ within

  next_key : (ts : List Tree) (es : Entries) (c q d y : List ℕ) → StartsWithKey ts → length ts % 2 ≡ 0 → Each R c (key_parts ts) → EncodesEntries L v d es → length ts < 2 * entry_count es → c ++ q ≡ d ++ y
      → NextKey q (finished_room ts) (entries_room es)
  next_key [] no_entries c q d y are even p s less e = absurd (omega (arith, less))
  next_key [] (entry l u es) c q d y are even p s less e = record {
    next = l;
    prefix = s.prefix;
    rest = s.rest ++ y;
    joined = ap (λ (z : List ℕ). z ++ q) (sym p) ∙ e ∙ ap (λ (z : List ℕ). z ++ y) s.joined ∙ append_assoc s.prefix s.rest y;
    encoded = s.first;
    room_is = omega arith;
  }
  next_key (k ∷ ts) no_entries c q d y are even p s less e = absurd (omega (arith, less))
  next_key (k ∷ []) (entry l u es) c q d y are even p s less e = absurd (omega (arith, even))
  next_key (k ∷ t ∷ ts) (entry l u es) c q d y are even p s less e =
      let whole = both_cut c d p.prefix p.rest s.prefix s.rest q y p.joined s.joined e in
      let same = (agree_key v (key_text k) l).agree p.prefix s.prefix (p.rest ++ q) (s.rest ++ y) p.first s.first whole in
      let rest = same_rest p.prefix s.prefix (p.rest ++ q) (s.rest ++ y) same.0 whole in
      let r = p.second in
      let o = s.second in
      let more = both_cut p.rest s.rest r.prefix r.rest o.prefix o.rest q y r.joined o.joined rest in
      let tree = one_tree L v one_l r.prefix o.prefix (r.rest ++ q) (o.rest ++ y) t u r.first o.first more in
      let n = next_key ts es r.rest q o.rest y are.1 (omega (arith, even)) r.second o.second (omega (arith, less)) (same_rest r.prefix o.prefix (r.rest ++ q) (o.rest ++ y) tree.0 more) in
      record { next = n.next; prefix = n.prefix; rest = n.rest; joined = n.joined; encoded = n.encoded; room_is = omega (arith, n.room_is, key_room k are.0, ap length same.1, ap room tree.1) }

  -- ---- a list that is open, and the value that it becomes

  -- the number and the children of an array, in the value's own bytes
  record IsArray (n : ℕ) (c q : List ℕ) (t : Tree) : Type 0 where
    us : Elements
    d : List ℕ
    y : List ℕ
    is : t ≡ array us
    counted : n ≡ element_count us
    encoded : EncodesElements L v d us
    joined : c ++ q ≡ d ++ y

  record IsObject (n : ℕ) (c q : List ℕ) (t : Tree) : Type 0 where
    es : Entries
    d : List ℕ
    y : List ℕ
    is : t ≡ object es
    counted : n ≡ entry_count es
    encoded : EncodesEntries L v d es
    joined : c ++ q ≡ d ++ y

  is_array : (n : ℕ) (whole h c q b y : List ℕ) (t : Tree) → whole ≡ h ++ c → Behind 12 (λ z. VNum z n) h → whole ++ q ≡ b ++ y → Encodes L v b t → IsArray n c q t
  is_array n whole h c q b y (leaf l) cut p e s = absurd ((leaf_coded (type_of l)).no_array (sym (behind_codes 12 (leaf_code l) whole b h c p.body s.body q y cut p.joined s.joined e).0))
  is_array n whole h c q b y (array us) cut p e s =
      let k = behind_codes 12 12 whole b h c p.body s.body q y cut p.joined s.joined e in
      let parts = s.encoded in
      let all : p.body ++ (c ++ q) ≡ parts.prefix ++ (parts.rest ++ y) = k.1 ∙ ap (λ (z : List ℕ). z ++ y) parts.joined ∙ append_assoc parts.prefix parts.rest y in
      let same = one_number p.body parts.prefix (c ++ q) (parts.rest ++ y) n (element_count us) p.encoded parts.first all in
      record { us = us; d = parts.rest; y = y; is = refl; counted = same.1; encoded = parts.second; joined = same_rest p.body parts.prefix (c ++ q) (parts.rest ++ y) same.0 all }
  is_array n whole h c q b y (object es) cut p e s = elim s [
    | inl o ↦ absurd (let k = behind_codes 12 13 whole b h c p.body o.body q y cut p.joined o.joined e in omega (arith, k.0))
    | inr o ↦ absurd (let k = behind_codes 12 8 whole b h c p.body o.body q y cut p.joined o.joined e in omega (arith, k.0))
  ]

  is_object : (n : ℕ) (whole h c q b y : List ℕ) (t : Tree) → whole ≡ h ++ c → Behind 13 (λ z. VNum z (entry_total v n)) h → whole ++ q ≡ b ++ y → Encodes L v b t → IsObject n c q t
  is_object n whole h c q b y (leaf l) cut p e s = absurd ((leaf_coded (type_of l)).no_object (sym (behind_codes 13 (leaf_code l) whole b h c p.body s.body q y cut p.joined s.joined e).0))
  is_object n whole h c q b y (array us) cut p e s = absurd (let k = behind_codes 13 12 whole b h c p.body s.body q y cut p.joined s.joined e in omega (arith, k.0))
  is_object n whole h c q b y (object es) cut p e s = elim s [
    | inl o ↦
        let k = behind_codes 13 13 whole b h c p.body o.body q y cut p.joined o.joined e in
        let parts = o.encoded in
        let all : p.body ++ (c ++ q) ≡ parts.prefix ++ (parts.rest ++ y) = k.1 ∙ ap (λ (z : List ℕ). z ++ y) parts.joined ∙ append_assoc parts.prefix parts.rest y in
        let same = one_number p.body parts.prefix (c ++ q) (parts.rest ++ y) (entry_total v n) (entry_total v (entry_count es)) p.encoded parts.first all in
        record { es = es; d = parts.rest; y = y; is = refl; counted = total_same v n (entry_count es) same.1; encoded = parts.second; joined = same_rest p.body parts.prefix (c ++ q) (parts.rest ++ y) same.0 all }
    | inr o ↦ absurd (let k = behind_codes 13 8 whole b h c p.body o.body q y cut p.joined o.joined e in omega (arith, k.0))
  ]

  in_list : (kind : ListKind) (n : ℕ) (ts : List Tree) (whole q b y : List ℕ) (t : Tree) → length ts < total kind n → AreChildren kind ts → IsValueNext kind (length ts) → Each R whole (list_head kind n ∷ children_parts kind ts) → whole ++ q ≡ b ++ y → Encodes L v b t
      → NextIn q (5 + finished_room ts) (room t)
  in_list Array n ts whole q b y t lacks are next p e s =
      let i = is_array n whole p.prefix p.rest q b y t p.joined p.first e s in
      let k = next_element ts i.us p.rest q i.d i.y p.second i.encoded (omega (arith, lacks, i.counted)) i.joined in
      record { next = k.next; starts = k.starts; room_is = omega (arith, k.room_is, ap room i.is) }
  in_list Object n ts whole q b y t lacks are next p e s =
      let i = is_object n whole p.prefix p.rest q b y t p.joined p.first e s in
      let k = next_behind_key ts i.es p.rest q i.d i.y are next p.second i.encoded (omega (arith, lacks, i.counted)) i.joined in
      record { next = k.next; starts = k.starts; room_is = omega (arith, k.room_is, ap room i.is) }

  in_list_key : (kind : ListKind) (n : ℕ) (ts : List Tree) (whole q b y : List ℕ) (t : Tree) → length ts < total kind n → AreChildren kind ts → IsKeyNext kind (length ts) → Each R whole (list_head kind n ∷ children_parts kind ts) → whole ++ q ≡ b ++ y → Encodes L v b t
      → NextKey q (5 + finished_room ts) (room t)
  in_list_key Array n ts whole q b y t lacks are next p e s = absurd next
  in_list_key Object n ts whole q b y t lacks are next p e s =
      let i = is_object n whole p.prefix p.rest q b y t p.joined p.first e s in
      let k = next_key ts i.es p.rest q i.d i.y are next p.second i.encoded (omega (arith, lacks, i.counted)) i.joined in
      record { next = k.next; prefix = k.prefix; rest = k.rest; joined = k.joined; encoded = k.encoded; room_is = omega (arith, k.room_is, ap room i.is) }

  -- ---- all open lists

  record NextValue (ls : List OpenList) (q : List ℕ) (t : Tree) : Type 0 where
    next : Tree
    starts : Starts q next
    room_is : lists_room ls + room next ≤ room t

  next_value : (ls : List OpenList) (p q b y : List ℕ) (t : Tree) → AreLists ls → AllAwait ls → Each R p (lists_parts ls) → p ++ q ≡ b ++ y → Encodes L v b t → NextValue ls q t
  next_value [] p q b y t are await h e s = record { next = t; starts = record { prefix = b; rest = y; joined = ap (λ (z : List ℕ). z ++ q) (sym h) ∙ e; encoded = s }; room_is = omega arith }
  next_value (l ∷ ls) p q b y t are await h e s =
      let c = each_split R (lists_parts ls) (list_parts l) p h in
      let whole : c.prefix ++ (c.rest ++ q) ≡ b ++ y = sym (append_assoc c.prefix c.rest q) ∙ ap (λ (z : List ℕ). z ++ q) (sym c.joined) ∙ e in
      let outer = next_value ls c.prefix (c.rest ++ q) b y t are.1 await.1 c.first whole s in
      let k = in_list l.kind l.announced l.children c.rest q outer.starts.prefix outer.starts.rest outer.next are.0.lacks are.0.children await.0 c.second outer.starts.joined outer.starts.encoded in
      record { next = k.next; starts = k.starts; room_is = omega (arith, k.room_is, outer.room_is) }

  next_key_in : (l : OpenList) (ls : List OpenList) (p q b y : List ℕ) (t : Tree) → AreLists (l ∷ ls) → AllAwait ls → IsKeyNext l.kind (length l.children) → Each R p (lists_parts (l ∷ ls)) → p ++ q ≡ b ++ y → Encodes L v b t
      → NextKey q (lists_room (l ∷ ls)) (room t)
  next_key_in l ls p q b y t are await next h e s =
      let c = each_split R (lists_parts ls) (list_parts l) p h in
      let whole : c.prefix ++ (c.rest ++ q) ≡ b ++ y = sym (append_assoc c.prefix c.rest q) ∙ ap (λ (z : List ℕ). z ++ q) (sym c.joined) ∙ e in
      let outer = next_value ls c.prefix (c.rest ++ q) b y t are.1 await c.first whole s in
      let k = in_list_key l.kind l.announced l.children c.rest q outer.starts.prefix outer.starts.rest outer.next are.0.lacks are.0.children next c.second outer.starts.joined outer.starts.encoded in
      record { next = k.next; prefix = k.prefix; rest = k.rest; joined = k.joined; encoded = k.encoded; room_is = omega (arith, k.room_is, outer.room_is) }

  -- ---- open bytes

  -- the length of a text that bytes begin with
  text_length : (n : ℕ) (a x b y content : List ℕ) → VNum a n → Text b content → a ++ x ≡ b ++ y → n ≡ length content
  text_length n a x b y content p s e =
      (one_number a s.sized.size x (content ++ y) n (length content) p s.sized.number (e ∙ ap (λ (z : List ℕ). z ++ y) s.sized.joined ∙ append_assoc s.sized.size content y)).1

  sized_length : (n : ℕ) (a x b y content : List ℕ) → VNum a n → Sized b content → a ++ x ≡ b ++ y → n ≡ length content
  sized_length n a x b y content p s e = (one_number a s.size x (content ++ y) n (length content) p s.number (e ∙ ap (λ (z : List ℕ). z ++ y) s.joined ∙ append_assoc s.size content y)).1

  content_length : (k : Scale) (held : Content) (n : ℕ) (a x b y : List ℕ) → HasLength (form_of held) → VNum a n → ContentBody k b held → a ++ x ≡ b ++ y → content_room held ≡ 5 + n
  content_length k (text_content t) n a x b y has p s e = omega (arith, text_length n a x b y t p s e)
  content_length k (bytes_content bs) n a x b y has p s e = omega (arith, sized_length n a x b y bs p s e)
  content_length k _ n a x b y has p s e = absurd has

  -- a value of which the code and the length have come
  coded_room : (ty : LeafType) (n : ℕ) (h x b y : List ℕ) (t : Tree) → HasLength (form ty) → Behind (store_code ty) (λ z. VNum z n) h → h ++ x ≡ b ++ y → Encodes L v b t → room t ≡ 5 + n
  coded_room ty n h x b y (leaf l) has p e s =
      let k = coded (store_code ty) (leaf_code l) h b p.body s.body x y p.joined s.joined e in
      let form_is : form ty ≡ form_of (content l) = ap form (one_code ty (type_of l) k.0) ∙ sym (form_of_content l) in
      content_length (scale v (type_of l)) (content l) n p.body x s.body y (subst HasLength form_is has) p.encoded s.encoded k.1
  coded_room ty n h x b y (array us) has p e s = absurd ((leaf_coded ty).no_array (coded (store_code ty) 12 h b p.body s.body x y p.joined s.joined e).0)
  coded_room ty n h x b y (object es) has p e s = elim s [
    | inl o ↦ absurd ((leaf_coded ty).no_object (coded (store_code ty) 13 h b p.body o.body x y p.joined o.joined e).0)
    | inr o ↦ absurd ((leaf_coded ty).no_legacy (coded (store_code ty) 8 h b p.body o.body x y p.joined o.joined e).0)
  ]

  key_length : (w : Version) (n : ℕ) (h x b y k : List ℕ) → KeyHead w h n → Key w b k → h ++ x ≡ b ++ y → n ≡ length k
  key_length V1 n h x b y k p s e = text_length n p.body x s.body y k p.encoded s.encoded (coded 0 0 h b p.body s.body x y p.joined s.joined e).1
  key_length V2 n h x b y k p s e = text_length n p.body x s.body y k p.encoded s.encoded (coded 0 0 h b p.body s.body x y p.joined s.joined e).1
  key_length V3 n h x b y k p s e = text_length n h x b y k p s e

  -- ---- a value of which this has come

  abbrev HeadParts : BytesKind → ℕ → List ℕ → List ℕ → Type 0
  HeadParts kind n bs b = Each R b (bytes_head kind n ∷ some_bytes bs ∷ [])

  in_leaf : (ty : LeafType) (ls : List OpenList) (n : ℕ) (h head rest r x b y : List ℕ) (t : Tree) → HasLength (form ty) → AreLists ls → AllAwait ls → Each R h (lists_parts ls) → Behind (store_code ty) (λ z. VNum z n) head → r ≡ head ++ rest
      → h ++ (r ++ x) ≡ b ++ y → Encodes L v b t → lists_room ls + (5 + n) ≤ room t
  in_leaf ty ls n h head rest r x b y t has are await p first joined e s =
      let k = next_value ls h (r ++ x) b y t are await p e s in
      let whole : head ++ (rest ++ x) ≡ k.starts.prefix ++ k.starts.rest = sym (append_assoc head rest x) ∙ ap (λ (z : List ℕ). z ++ x) (sym joined) ∙ k.starts.joined in
      omega (arith, k.room_is, coded_room ty n head (rest ++ x) k.starts.prefix k.starts.rest k.next has first whole k.starts.encoded)

  in_value : (kind : BytesKind) (ls : List OpenList) (n : ℕ) (bs h r x b y : List ℕ) (t : Tree) → AreLists ls → HeadNext kind ls → OthersAwait ls → Each R h (lists_parts ls) → HeadParts kind n bs r → h ++ (r ++ x) ≡ b ++ y → Encodes L v b t
      → lists_room ls + (5 + n) ≤ room t
  in_value kinds.Str ls n bs h r x b y t are next others p g e s = in_leaf types.Str ls n h g.prefix g.rest r x b y t tt are next p g.first g.joined e s
  in_value kinds.Facet ls n bs h r x b y t are next others p g e s = in_leaf types.Facet ls n h g.prefix g.rest r x b y t tt are next p g.first g.joined e s
  in_value kinds.Bytes ls n bs h r x b y t are next others p g e s = in_leaf types.Bytes ls n h g.prefix g.rest r x b y t tt are next p g.first g.joined e s
  in_value kinds.Key [] n bs h r x b y t are next others p g e s = absurd next
  in_value kinds.Key (l ∷ ls) n bs h r x b y t are next others p g e s =
      let k = next_key_in l ls h (r ++ x) b y t are others next p e s in
      let head = key_length v n g.prefix (g.rest ++ x) k.prefix k.rest k.next g.first k.encoded (sym (append_assoc g.prefix g.rest x) ∙ ap (λ (z : List ℕ). z ++ x) (sym g.joined) ∙ k.joined) in
      omega (arith, k.room_is, head)

  open_within : (l : OpenList) (ls : List OpenList) (p x b y : List ℕ) (t : Tree) → AreLists (l ∷ ls) → AllAwait ls → Each R p (lists_parts (l ∷ ls)) → p ++ x ≡ b ++ y → Encodes L v b t → lists_room (l ∷ ls) ≤ room t
  open_within l ls p x b y t are await h e s = by_next l.kind refl
    where
      a_value : IsValueNext l.kind (length l.children) → lists_room (l ∷ ls) ≤ room t
      a_value next = omega (arith, (next_value (l ∷ ls) p x b y t are (next, await) h e s).room_is)

      a_key : IsKeyNext l.kind (length l.children) → lists_room (l ∷ ls) ≤ room t
      a_key next = omega (arith, (next_key_in l ls p x b y t are await next h e s).room_is)

      by_next : (kind : ListKind) → l.kind ≡ kind → lists_room (l ∷ ls) ≤ room t
      by_next Array is = a_value (subst (λ z. IsValueNext z (length l.children)) (sym is) tt)
      by_next Object is = elim (eqb_tells (length l.children % 2) 0) [
        | inl q ↦ a_key (subst (λ z. IsKeyNext z (length l.children)) (sym is) q.1)
        | inr q ↦ a_value (subst (λ z. IsValueNext z (length l.children)) (sym is) (omega (arith, q.1)))
      ]

  pub state_within : (st : State) (p x b y : List ℕ) (t : Tree) → IsState st → Each R p (parts_of st) → p ++ x ≡ b ++ y → Encodes L v b t → state_room st ≤ room t
  state_within (complete u) p x b y t is h e s =
      let all : p ≡ h.prefix = h.joined ∙ ap (λ (z : List ℕ). h.prefix ++ z) h.second ∙ append-nil h.prefix in
      let same = one_tree L v one_l h.prefix b x y u t h.first s (ap (λ (z : List ℕ). z ++ x) (sym all) ∙ e) in
      omega (arith, ap room same.1)
  state_within (in_lists []) p x b y t is h e s = omega arith
  state_within (in_lists (l ∷ ls)) p x b y t is h e s = open_within l ls p x b y t is.0 is.1 h e s
  state_within (in_bytes ls kind n bs) p x b y t is h e s =
      let c = each_split R (lists_parts ls) (bytes_head kind n ∷ some_bytes bs ∷ []) p h in
      in_value kind ls n bs c.prefix c.rest x b y t is.0 is.2 is.1 c.first c.second (sym (append_assoc c.prefix c.rest x) ∙ ap (λ (z : List ℕ). z ++ x) (sym c.joined) ∙ e) s

  -- ---- a document

  pairs_within : (o : Document) (f : ℕ) (st : State) (d : Document) (p x b y : List ℕ) → IsState st → length o < length d → Each R p (pairs_parts o ++ (field f ∷ parts_of st)) → p ++ x ≡ b ++ y → Each (EncodesPair L v) b d
      → document_room o + state_room st ≤ document_room d
  pairs_within [] f st [] p x b y is less h e s = absurd (omega (arith, less))
  pairs_within (q ∷ o) f st [] p x b y is less h e s = absurd (omega (arith, less))
  pairs_within [] f st (r ∷ d) p x b y is less h e s =
      let whole = both_cut p b h.prefix h.rest s.prefix s.rest x y h.joined s.joined e in
      let t = s.first in
      let all : h.prefix ++ (h.rest ++ x) ≡ t.prefix ++ (t.rest ++ (s.rest ++ y)) = whole ∙ ap (λ (z : List ℕ). z ++ (s.rest ++ y)) t.joined ∙ append_assoc t.prefix t.rest (s.rest ++ y) in
      let same = one_fixed 4 h.prefix t.prefix (h.rest ++ x) (t.rest ++ (s.rest ++ y)) f r.0 h.first t.first all in
      let within = state_within st h.rest x t.rest (s.rest ++ y) r.1 is h.second (same_rest h.prefix t.prefix (h.rest ++ x) (t.rest ++ (s.rest ++ y)) same.0 all) t.second in
      omega (arith, within, document_room-cons r d)
  pairs_within (q ∷ o) f st (r ∷ d) p x b y is less h e s =
      let whole = both_cut p b h.prefix h.rest s.prefix s.rest x y h.joined s.joined e in
      let same = one_pair L v one_l h.prefix s.prefix (h.rest ++ x) (s.rest ++ y) q r h.first s.first whole in
      let more = pairs_within o f st d h.rest x s.rest y is (omega (arith, less)) h.second (same_rest h.prefix s.prefix (h.rest ++ x) (s.rest ++ y) same.0 whole) s.second in
      omega (arith, more, document_room-cons q o, document_room-cons r d, ap (λ (z : ℕ × Tree). room z.1) same.1)

  pub document_within : (n : ℕ) (o : Document) (f : ℕ) (st : State) (p x b y : List ℕ) (d : Document) → IsState st → length o < n → Each R p (open_parts n o f st) → p ++ x ≡ b ++ y → EncodesDocument L v b d
      → document_room o + state_room st ≤ document_room d
  document_within n o f st p x b y d is less h e s =
      let whole = both_cut p b h.prefix h.rest s.prefix s.rest x y h.joined s.joined e in
      let same = one_number h.prefix s.prefix (h.rest ++ x) (s.rest ++ y) n (length d) h.first s.first whole in
      pairs_within o f st d h.rest x s.rest y is (omega (arith, less, same.1)) h.second (same_rest h.prefix s.prefix (h.rest ++ x) (s.rest ++ y) same.0 whole) s.second
