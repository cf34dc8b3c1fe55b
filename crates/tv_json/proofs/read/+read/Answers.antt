use Rattle.std.proofs.Common.{◌≡◌, ◌-◌, ◌<◌, ◌∷◌, ◌++◌, [], length, Some, None, sym, ap, subst, ◌∙◌, arith}
use Rattle.std.proofs.lemmas.Option.{IfSome_then}
use Rattle.json.specs.Json.{after_end_array, read_key, value}
use Rattle.json.specs.Token.{Token}
use Rattle.json.proofs.Grammar.{read_key-shorter}
use Rattle.serde_json.specs.Data.{item, put}
use Rattle.serde_json.specs.Read.{of_json, converted}
use Rattle.tv_json.specs.Begun.{BeginsJson}
use Rattle.tv_json.specs.Found.{found_data}
use Rattle.serde_json.specs.Written.{items_have_float}
use Rattle.tv_json.specs.BorrowedData.{data_of, items_data}
use Rattle.tv_json.proofs.Levels.{data_of-Array, data_of-Object}
use Rattle.tv_json.proofs.Rising.{put_rises}
use Rattle.tv_json.proofs.Floats.{none_in_last, none_in_put}
use Rattle.tv_json.proofs.Places.{items_before, items_before-none, items_before-last}
use Rattle.tv_json.proofs.Turns.{array-read, object-read, item-read, no_items-read, member-read, no_members-read}
use Rattle.tv_json.proofs.read.+read.Goals as goal

pub read-returns-in-Leaf-clause-found : goal.read-returns-in-Leaf-clause-found
read-returns-in-Leaf-clause-found t c =
    subst (λ b. BeginsJson b c.args.reader.now c.begin.new.reader) c.in-Leaf.is c.in_ok-json.ensures.begins c.args.depth

pub read-returns-in_ok-read_items-in-Array-clause-found : goal.read-returns-in_ok-read_items-in-Array-clause-found
read-returns-in_ok-read_items-in-Array-clause-found t c =
    let v = c.in_ok-read_items-in-Array.field-0 in
    let found = c.in_ok-read_items-in-Array.ensures.found in
    let first : c.args.reader.now ≡ Token.begin_array ∷ c.begin.new.reader = subst (λ b. BeginsJson b c.args.reader.now c.begin.new.reader) c.in-Array.is c.in_ok-json.ensures.begins in
    ap (λ ts. converted of_json (value c.args.depth ts)) first ∙ array-read c.args.depth c.begin.new.reader c.read_items.new.reader _ c.if-depth-gt0.true found
    ∙ ap (λ d. Some (d, c.read_items.new.reader)) (sym (data_of-Array v))

pub read-returns-in_ok-read_members-in-Object-clause-found : goal.read-returns-in_ok-read_members-in-Object-clause-found
read-returns-in_ok-read_members-in-Object-clause-found t c =
    let v = c.in_ok-read_members-in-Object.field-0 in
    let found = c.in_ok-read_members-in-Object.ensures.found in
    let first : c.args.reader.now ≡ Token.begin_object ∷ c.begin.new.reader = subst (λ b. BeginsJson b c.args.reader.now c.begin.new.reader) c.in-Object.is c.in_ok-json.ensures.begins in
    ap (λ ts. converted of_json (value c.args.depth ts)) first ∙ object-read c.args.depth c.begin.new.reader c.read_members.new.reader _ c.if-depth-gt0-2.true found
    ∙ ap (λ d. Some (d, c.read_members.new.reader)) (sym (data_of-Object v))

pub read_items-items-init : goal.read_items-items-init
read_items-items-init t c =
    let none = c.new-found.ensures.items in
    record {
      turns = length c.args.reader.now;
      enough = omega arith;
      rest = λ ds r more. more ∙ ap (λ vs. Some (items_before vs ds, r)) (sym none);
      less = omega arith;
      floats = λ e. (e, ap (λ vs. items_have_float (items_data vs)) none);
    }

pub read_items-items-preserved : goal.read_items-items-preserved
read_items-items-preserved t c =
    let p = value c.args.depth in
    let l = c.items in
    let going : (after_end_array l.reader ≡ None) × (c.take_end_array.new.self ≡ l.reader) = grind arith in
    let done = c.in_ok-item.ensures in
    let v = c.in_ok-item.item in
    let s = c.read.new.reader in
    let n = l.invariant.turns in
    let less : length s < length l.reader = rw (← going.1) done.shorter in
    let some : 0 < n = omega (arith, l.invariant.enough) in
    let first : converted of_json (p l.reader) ≡ Some (data_of v, s) = rw (← going.1) done.found in
    let grown : c.push.new.self.items ≡ l.found.items ++ v ∷ [] = rw (← c.in_ok-ok.ensures.variant) at c.push.ensures.items in
    record {
      turns = n - 1;
      enough = omega (arith, l.invariant.enough);
      rest = λ ds r more.
          l.invariant.rest (item (data_of v) ds) r (item-read p n l.reader s r (data_of v) ds some going.0 first more)
          ∙ ap (λ items. Some (items, r)) (sym (items_before-last l.found.items v ds) ∙ ap (λ vs. items_before vs ds) (sym grown));
      less = omega (arith, l.invariant.less);
      floats = λ e.
          let noted = done.floats e in
          let before = l.invariant.floats noted.0 in
          (before.0, rw grown (none_in_last l.found.items v before.1 noted.1));
    }

pub read_items-returns-clause-found : goal.read_items-returns-clause-found
read_items-returns-clause-found t c =
    let l = c.items in
    let r = c.take_end_array.new.self in
    let ended : after_end_array l.reader ≡ Some r = grind arith in
    l.invariant.rest _ r (no_items-read (value c.args.depth) l.invariant.turns l.reader r l.invariant.enough ended) ∙ ap (λ ds. Some (ds, r)) (items_before-none l.found.items)

pub read_members-members-preserved : goal.read_members-members-preserved
read_members-members-preserved t c =
    let p = value c.args.depth in
    let l = c.members in
    let n = l.invariant.turns in
    let k = c.in-Some.key.now in
    let v = c.next_key.new.self in
    let named : read_key l.reader ≡ Some (Some k, v) = grind arith in
    let done = c.in_ok-member.ensures in
    let d = data_of c.in_ok-member.member in
    let s = c.read.new.reader in
    let shorter = read_key-shorter l.reader (Some k) v named in
    let less : length s < length l.reader = omega (arith, shorter, done.shorter) in
    let some : 0 < n = omega (arith, l.invariant.enough) in
    let grown : found_data c.put.new.self ≡ put k d (found_data l.found) = c.in_ok-put.ensures in
    record {
      turns = n - 1;
      enough = omega (arith, l.invariant.enough);
      rises = rw grown (put_rises k d (found_data l.found) l.invariant.rises);
      rest = λ ds r more.
          l.invariant.rest ds r (member-read p n (found_data l.found) k l.reader v s r d ds some named done.found (rw grown at more));
      less = omega (arith, l.invariant.less);
      floats = λ e.
          let noted = done.floats e in
          let before = l.invariant.floats noted.0 in
          (before.0, rw grown (none_in_put k d (found_data l.found) noted.1 before.1));
    }

pub read_members-returns-clause-found : goal.read_members-returns-clause-found
read_members-returns-clause-found t c =
    let l = c.members in
    let r = c.next_key.new.self in
    let ended : read_key l.reader ≡ Some (None, r) = grind arith in
    IfSome_then c.into_list.result c.into_list.ensures
    (λ list same. l.invariant.rest _ r (no_members-read (value c.args.depth) l.invariant.turns (found_data l.found) l.reader r l.invariant.enough ended) ∙ ap (λ ds. Some (ds, r)) (sym same))

pub read_members-returns-clause-floats : goal.read_members-returns-clause-floats
read_members-returns-clause-floats t c =
    IfSome_then c.into_list.result c.into_list.ensures (λ list same e. let h = c.members.invariant.floats e in (h.0, rw same h.1))
