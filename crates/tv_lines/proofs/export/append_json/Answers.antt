use Rattle.std.proofs.Common.{OnOk, string_bytes, subst, sym}
use Rattle.tv_doc.specs.Document.{document_of}
use Rattle.tv_lines.specs.Printing.{AppendsJson}
use Rattle.tv_lines.proofs.export.append_json.Goals as goal

pub returns-in-Compact-clause-appended : goal.returns-in-Compact-clause-appended
returns-in-Compact-clause-appended c =
    subst (λ layout. OnOk c.append_compact.result (AppendsJson c.args.schema.now layout (document_of c.args.document.now) (string_bytes c.args.text.now) (string_bytes c.append_compact.new.text)))
    (sym c.in-Compact.is) c.append_compact.ensures.appended
