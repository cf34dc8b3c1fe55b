use Rattle.std.proofs.Common.{drop, sym}
use Rattle.std.proofs.lemmas.List.{take-append-drop}
use Rattle.store_cases.proofs.sources.LimitedSourceByteSource.buffered.Goals as goal

pub returns : goal.returns
returns c = λ told. (drop c.min.result c.args.self.now.rest.now, sym (take-append-drop c.min.result c.args.self.now.rest.now))
