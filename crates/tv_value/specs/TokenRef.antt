-- Tokens that are lent.
use Rattle.tv_format.specs.Tree.{Token}
use Rattle.tv_value.specs.declared.pre_tokenized.TokenRef.{TokenRef}

abbrev pub ref_of : TokenRef → Token
ref_of t = record {
  offset_from = t.offset_from;
  offset_to = t.offset_to;
  position = t.position;
  text = t.text.now;
  position_length = t.position_length;
}
