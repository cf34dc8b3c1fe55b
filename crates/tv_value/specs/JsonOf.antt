-- The JSON value that a value is.
use Rattle.std.specs.Prelude.{ℕ, List, [], ◌∷◌, take, drop, bytes_eq, if◌then◌else◌}
use lib.Chars.{codes}
use Rattle.std.specs.Int.{w128, to_be_bytes}
use Rattle.std.specs.Net.Addr.{segments_of, octets_of}
use Rattle.std.specs.Net.Text.{ipv4_text, ipv6_text}
use Rattle.base64.specs.Engines.{standard}
use Rattle.base64.specs.GeneralPurpose.{encode_of}
use Rattle.serde_json.specs.Data as json
use Rattle.serde_json.specs.Data.{Data, Items, Members, put}
use Rattle.serde_json.specs.Find.{of_integer}
use Rattle.tv_base.specs.Facet.{printed}
use Rattle.tv_date.specs.Printed.{moment_text}
use Rattle.tv_format.specs.Content.{Content, no_content, truth_content, unsigned_content, signed_content}
use Rattle.tv_format.specs.Content.{wide_content, text_content, bytes_content, tokens_content}
use Rattle.tv_format.specs.Leaves.{content}
use Rattle.tv_format.specs.Tree.{Token, Leaf, date, facet, Tree, leaf, array, object, Elements, no_elements}
use Rattle.tv_format.specs.Tree.{element, Entries, no_entries, entry}

-- the text of an address: `::ffff:a.b.c.d` as `a.b.c.d`, another as std prints it
unfoldable pub segments_text : List ℕ → List ℕ
segments_text segments =
    if bytes_eq (take 6 segments) (0 ∷ 0 ∷ 0 ∷ 0 ∷ 0 ∷ 0xffff ∷ [])
    then ipv4_text (octets_of (drop 6 segments))
    else ipv6_text segments

abbrev pub address_text : ℕ → List ℕ
address_text n = segments_text (segments_of (to_be_bytes w128 n))

-- a number from 0 on
abbrev pub count_json : ℕ → Data
count_json n = json.number (json.unsigned n)

abbrev pub token_json : Token → Data
token_json token =
    json.object
    (json.member (codes "offset_from") (count_json token.offset_from)
    (json.member (codes "offset_to") (count_json token.offset_to)
    (json.member (codes "position") (count_json token.position)
    (json.member (codes "position_length") (count_json token.position_length)
    (json.member (codes "text") (json.string token.text) json.no_members)))))

abbrev pub tokens_json : List Token → Items
tokens_json [] = json.no_items
tokens_json (t ∷ ts) = json.item (token_json t) (tokens_json ts)

abbrev pub tokenized_json : List ℕ → List Token → Data
tokenized_json t ts = json.object (json.member (codes "text") (json.string t)
    (json.member (codes "tokens") (json.array (tokens_json ts)) json.no_members))

-- nothing, texts, numbers and truth values as themselves, and what JSON has no kind for as a text or an
-- object; a number of sixteen
-- bytes is that of an address
abbrev pub content_json : Content → Data
content_json no_content = json.null
content_json (truth_content b) = json.boolean b
content_json (unsigned_content n) = count_json n
content_json (signed_content z) = json.number (of_integer z)
content_json (wide_content n) = json.string (address_text n)
content_json (text_content t) = json.string t
content_json (bytes_content bs) = json.string (encode_of standard bs)
content_json (tokens_content t ts) = tokenized_json t ts

-- dates and facets as they are printed, others by what they hold
abbrev pub leaf_json : Leaf → Data
leaf_json (date z) = json.string (moment_text z)
leaf_json (facet t) = json.string (printed t)
leaf_json the_leaf = content_json (content the_leaf)

-- Arrays and objects by their parts. The entries of an object go in one after the other, so the last of equal
-- keys stands.
abbrev mutual
  pub json_of : Tree → Data
  json_of (leaf l) = leaf_json l
  json_of (array ts) = json.array (elements_json ts)
  json_of (object es) = json.object (entries_json es json.no_members)

  pub elements_json : Elements → Items
  elements_json no_elements = json.no_items
  elements_json (element t ts) = json.item (json_of t) (elements_json ts)

  pub entries_json : Entries → Members → Members
  entries_json no_entries found = found
  entries_json (entry k t es) found = entries_json es (put k (json_of t) found)
