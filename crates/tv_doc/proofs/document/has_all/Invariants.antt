use Rattle.std.proofs.Common.{◌≡◌, ◌++◌, String, Global, List, map}
use Rattle.tv_value.specs.declared.field.Field.{Field}
use Rattle.tv_doc.specs.SameTexts.{HasAll, text_seen, texts_seen}
use Rattle.tv_doc.proofs.document.has_all.Given as goal

-- those before the ones that are left are among the texts
abbrev pub invariant-loop-text : goal.invariant-loop-text
invariant-loop-text l = (before : List (Field × String Global)) × (l.others.keys ≡ before ++ l.text-iterator) × HasAll (texts_seen l.texts) (map text_seen before)
