use Rattle.std.proofs.Common.{◌≡◌, take, take_while, option_map, ap, ◌∙◌}
use Rattle.serde_json.specs.Data.{number}
use Rattle.serde_json.specs.Read.{number_of}
use Rattle.tv_json.specs.BorrowedData.{data_of}
use Rattle.tv_json.specs.LargeNumber.{is_number_byte}
use Rattle.tv_json.proofs.LargeNumbers.{take-take_while, none_alike}
use Rattle.tv_json.proofs.large_number.begins_large.Goals as goal

pub returns : goal.returns
returns c =
    let bytes = c.args.bytes.now in
    let front : take c.number_len.result bytes ≡ take_while is_number_byte bytes =
    ap (λ n. take n bytes) c.number_len.ensures ∙ take-take_while is_number_byte bytes in
    none_alike data_of number c.read_numeral.result (number_of (take_while is_number_byte bytes)) c.is_none.result
    (c.read_numeral.ensures.found ∙ ap (λ t. option_map number (number_of t)) front) c.is_none.ensures
