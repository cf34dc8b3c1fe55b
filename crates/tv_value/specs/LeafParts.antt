-- What a leaf that is lent holds.
use Rattle.tv_format.specs.Content.{Content, no_content, truth_content, unsigned_content, signed_content}
use Rattle.tv_format.specs.Content.{wide_content, text_content, bytes_content, tokens_content}
use Rattle.tv_value.specs.PreTokenized.{text_of, tokens_of}
use Rattle.tv_value.specs.declared.leaf.LeafContent.{LeafContent}
use Rattle.tv_value.specs.declared.leaf.LeafContent.TheVariants as held

abbrev pub content_of : LeafContent → Content
content_of held.Nothing = no_content
content_of (held.Truth b) = truth_content b
content_of (held.Unsigned n) = unsigned_content n
content_of (held.Signed z) = signed_content z
content_of (held.Wide n) = wide_content n
content_of (held.Text t) = text_content t.now
content_of (held.Bytes bs) = bytes_content bs.now
content_of (held.Tokens t) = tokens_content (text_of t) (tokens_of t)
