-- The line that tells why a call is not carried out.
use Rattle.std.specs.Prelude.{ℕ, List}
use Rattle.desk.specs.Lines.{refused_line}
use Rattle.session.specs.Objections.{shown_objection}
use Rattle.session.specs.declared.objection.Objection.{Objection}

-- The line that tells why the call of the line with the number n is not carried out.
abbrev pub objected : ℕ → Objection → List ℕ
objected n o = refused_line n (shown_objection o)
