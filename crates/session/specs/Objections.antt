-- What a person reads of an objection.
use Rattle.std.specs.Prelude.{ℕ, List, codes}
use Rattle.session.specs.declared.objection.Objection.{Objection}
use Rattle.session.specs.declared.objection.Objection.TheVariants.{NoSuchBank, BankIsOpen, NoBankIsOpen, NoCopy}

abbrev pub shown_objection : Objection → List ℕ
shown_objection NoSuchBank = codes "no such bank"
shown_objection BankIsOpen = codes "a bank is open"
shown_objection NoBankIsOpen = codes "no bank is open"
shown_objection NoCopy = codes "there is no copy"
