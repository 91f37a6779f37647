-- What an encoder may send of its texts (this project's own rule): with padding, any bytes behind the carriage return.
use Rattle.rds_safety.specs.Lawful.{Kind, padded_texts, texts}
use Rattle.rds_audit.specs.declared.text_form.TextForm.{TextForm}
use Rattle.rds_audit.specs.declared.text_form.TextForm.TheVariants.{Plain, Padded}

-- the texts of this form
abbrev pub text_kind : TextForm → Kind
text_kind Plain = texts
text_kind Padded = padded_texts
