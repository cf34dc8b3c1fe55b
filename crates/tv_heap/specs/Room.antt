-- How many bytes of heap a value may take: an upper count.
use Rattle.std.specs.Prelude.{ℕ, ◌+◌, length}
use Rattle.std.specs.List.{sum_by}
use Rattle.tv_format.specs.Content.{Content, no_content, truth_content, unsigned_content, signed_content}
use Rattle.tv_format.specs.Content.{wide_content, text_content, bytes_content, tokens_content}
use Rattle.tv_format.specs.Leaves.{content}
use Rattle.tv_format.specs.Tree.{Token, Leaf, Tree, leaf, array, object, Elements, no_elements, element}
use Rattle.tv_format.specs.Tree.{Entries, no_entries, entry, Document}

-- a length or an address takes 5 bytes at most, the five parts of a token 50 beside its text
abbrev pub token_room : Token → ℕ
token_room token = 50 + length token.text

abbrev pub content_room : Content → ℕ
content_room no_content = 0
content_room (truth_content b) = 0
content_room (unsigned_content n) = 8
content_room (signed_content z) = 8
content_room (wide_content n) = 16
content_room (text_content t) = 5 + length t
content_room (bytes_content bs) = 5 + length bs
content_room (tokens_content t ts) = 15 + length t + sum_by token_room ts

abbrev pub leaf_room : Leaf → ℕ
leaf_room the_leaf = content_room (content the_leaf)

-- a child takes 6 bytes more in its parent's list, and a key 6 and its text
abbrev mutual
  pub room : Tree → ℕ
  room (leaf l) = leaf_room l
  room (array ts) = 5 + elements_room ts
  room (object es) = 5 + entries_room es

  pub elements_room : Elements → ℕ
  elements_room no_elements = 0
  elements_room (element t ts) = 6 + room t + elements_room ts

  pub entries_room : Entries → ℕ
  entries_room no_entries = 0
  entries_room (entry k t es) = 17 + length k + room t + entries_room es

-- of all values of a document
abbrev pub document_room : Document → ℕ
document_room document = sum_by (λ pair. room pair.1) document
