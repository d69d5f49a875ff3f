-- The reply to a line that is no call is what is said to the line.
use Rattle.std.proofs.Common.{◌≡◌, ℕ, false, ◌⊎◌, List, IfOk, Ok, Err, Result, refl, inl, inr}
use Rattle.calls.specs.Lines.{NoCall}
use Rattle.desk.specs.Said.{passed_over}
use Rattle.desk.specs.declared.reply.Reply.{Reply}
use Rattle.desk.specs.declared.reply.Reply.TheVariants.{Nothing, Answer, Refusal}
use Rattle.session.specs.Sessions.{State}
use Rattle.tokens.specs.declared.fault.Fault.{Fault}
use Rattle.tokens.specs.declared.fault.Fault.TheVariants.{Memory}
use Rattle.counter.specs.Told.{RepliedToOther, ToldToLine}

pub told_other : {E : Type 0} (n : ℕ) (line : List ℕ) (before : State) (f : Fault) → passed_over line ≡ false → (f ≡ Memory) ⊎ NoCall line
    → (r : Result Reply E) → IfOk r (RepliedToOther n f line) → IfOk r (λ reply. ToldToLine n line before reply before)
told_other n line before f p lacks (Err e) h = tt
told_other n line before f p lacks (Ok Nothing) (inl w) = absurd w.2
told_other n line before f p lacks (Ok Nothing) (inr w) = absurd w.2
told_other n line before f p lacks (Ok (Answer s)) h = (p, inr (f, lacks, h, refl))
told_other n line before f p lacks (Ok (Refusal s)) h = (p, inr (f, lacks, h, refl))
