-- Lemmas about the session in a seat, once the borrow of the session has ended, and about a session that started in a
-- seat.
use Rattle.std.proofs.Common.{◌≡◌, Bool, true, Option, Some, None, Result, Ok, Err, IfSome, OnSome, inl, inr, refl, subst, sym}
use Rattle.std.specs.Prelude.{ℕ, is_some}
use Rattle.tc_c_base.specs.Status.{code_of}
use Rattle.tc_c_base.specs.declared.status.Status.{Status}
use Rattle.tc_c_base.specs.declared.status.Status.TheVariants as st
use Rattle.tc_c_lines.proofs.Names.{SessionValue}
use Rattle.tc_c_lines.specs.Calls.{IsMade, IsStarted}
use Rattle.tc_session.specs.declared.engine.Engine.{Engine}

pub left-so : {A : Type 0} (lent : Option A) (held : A) (left : Option SessionValue) (new : SessionValue) → lent ≡ Some held
    → OnSome lent (left ≡ Some new) → left ≡ Some new
left-so (Some x) held left new is holds = holds
left-so None held left new is holds = absurd cc

-- if the value of an option has the property P, and Q follows from P, the value has the property Q
pub some-more : {X : Type 0} (o : Option X) (P Q : X → Type 0) → ((x : X) → P x → Q x) → IfSome o P → IfSome o Q
some-more None P Q more holds = tt
some-more (Some x) P Q more holds = more x holds

-- if the seat holds a session, the status `SessionInUse` meets the condition of a start
pub in-use : (start : Result Engine Status) (held : Option SessionValue) → is_some held ≡ true → IsStarted start held held (code_of st.SessionInUse)
in-use start (Some session) is = (refl, refl)
in-use start None is = absurd cc

-- the condition of a start also holds for each start that equals the given one
pub started-as : (made start : Result Engine Status) (held new : Option SessionValue) (result : ℕ) → made ≡ start → IsStarted made held new result → IsStarted start held new result
started-as made start held new result is started = subst (λ (s : Result Engine Status). IsStarted s held new result) is started

-- if `IsStarted` holds for an empty seat and the outcome `made` of creating an engine, it also holds for that seat and
-- `start`, which is the wanted engine or the fault of the arguments
pub made-so : (start made : Result Engine Status) (new : Option SessionValue) (result : ℕ) → IsMade start made → IsStarted made None new result → IsStarted start None new result
made-so (Ok engine) made new result (inl is) started = subst (λ (s : Result Engine Status). IsStarted s None new result) is started
made-so (Ok engine) made new result (inr is) started = inr (subst (λ (s : Result Engine Status). IsStarted s None new result) is started)
made-so (Err fault) made new result is started = subst (λ (s : Result Engine Status). IsStarted s None new result) is started

-- the condition of a start holds for a session that was put into an empty seat
pub sat : (start : Result Engine Status) (engine : Engine) (held new : Option SessionValue) (session : SessionValue) (result : ℕ) → start ≡ Ok engine → held ≡ None
    → result ≡ code_of st.Done → new ≡ Some session → session.engine ≡ engine → session.waits ≡ None → IsStarted start held new result
sat start engine held new session result is none done there from free =
    subst (λ (s : Result Engine Status). IsStarted s held new result) (sym is)
    (subst (λ (h : Option SessionValue). IsStarted (Ok engine) h new result) (sym none) (inl (done, (session, there, from, free))))
