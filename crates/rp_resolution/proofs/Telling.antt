-- Faults of a part are faults of the whole.
use Rattle.std.proofs.Common.{◌≡◌, ℕ, Bool, true, false, ◌&&◌, Option, None, Some, List, [], ◌++◌, Result, Ok, Err, refl}
use Rattle.std.specs.Prelude.{IsErr, IfOk, IfErr, MatchResult}
use Rattle.rp_resolution.specs.declared.fault.Fault.{Fault}
use Rattle.rp_resolution.specs.declared.fault.CheckKind.{CheckKind}
use Rattle.rp_resolution.specs.declared.fault.CheckFault.{CheckFault}
use Rattle.rp_resolution.specs.declared.fault.CheckFault.TheVariants as refusal
use Rattle.rp_value.specs.declared.value.Kind.TheVariants.{Int, Text}
use Rattle.rp_resolution.specs.Sorts.{Sort, Valued, Truth, may_be_value, comparable}
use Rattle.rp_resolution.specs.ExprFaults.{unless}
use Rattle.rp_resolution.specs.Checked.{Tells, FirstFaultOr, first_fault, no_memory}

-- the first of the first part's faults is the first of all
pub tells_front : (e : CheckFault) (fs gs : List Fault) → Tells e fs → Tells e (fs ++ gs)
tells_front e fs gs (first_fault fault others) = first_fault fault (others ++ gs)
tells_front e fs gs (no_memory faults) = no_memory (faults ++ gs)

-- where the first part has none, the first of the second part's is the first of all
pub tells_behind : (e : CheckFault) (fs gs : List Fault) → fs ≡ [] → Tells e gs → Tells e (fs ++ gs)
tells_behind e fs gs none told = rw none told

pub none_in_both : (fs gs : List Fault) → fs ≡ [] → gs ≡ [] → fs ++ gs ≡ []
none_in_both fs gs f g = rw f g

-- the one fault of a test that doesn't hold
pub tells_test : (e : CheckFault) (test : Bool) (kind : CheckKind) (at : ℕ) → e ≡ refusal.Fault (record { kind = kind; offset = at }) → test ≡ false → Tells e (unless test kind at)
tells_test e test kind at is failed = rw (is, failed) (first_fault (record { kind = kind; offset = at }) [])

pub passed : (test : Bool) (kind : CheckKind) (at : ℕ) → test ≡ true → unless test kind at ≡ []
passed test kind at holds = rw holds refl

-- being out of memory may be reported at any time
pub tells_memory : (e : CheckFault) (fs : List Fault) → e ≡ refusal.OutOfMemory → Tells e fs
tells_memory e fs is = rw is (no_memory fs)

-- a last test, whose answer tells nothing else
pub allowed : {X : Type 0} (fs gs : List Fault) (Right : X → Type 0) (r : Result X CheckFault) → fs ≡ [] → FirstFaultOr gs Right r → FirstFaultOr (fs ++ gs) (λ x. Unit {0}) r
allowed fs gs Right (Ok x) none done = (none_in_both fs gs none done.0, tt)
allowed fs gs Right (Err e) none told = tells_behind e fs gs none told

-- where nothing is at fault, being out of memory alone may be reported
pub clean_or_memory : {X : Type 0} (fs : List Fault) (Right : X → Type 0) (r : Result X CheckFault) → fs ≡ [] → MatchResult r Right (λ e. e ≡ refusal.OutOfMemory) → FirstFaultOr fs Right r
clean_or_memory fs Right (Ok x) clean right = (clean, right)
clean_or_memory fs Right (Err e) clean is = tells_memory e fs is

-- the same, where two facts of the answer make it right
pub right_or_memory : {X : Type 0} (fs : List Fault) (P Q Right : X → Type 0) (r : Result X CheckFault) → fs ≡ [] → ((x : X) → P x → Q x → Right x)
    → IfOk r P → IfOk r Q → IfErr r (λ e. e ≡ refusal.OutOfMemory) → FirstFaultOr fs Right r
right_or_memory fs P Q Right (Ok x) clean makes p q is = (clean, makes x p q)
right_or_memory fs P Q Right (Err e) clean makes p q is = tells_memory e fs is

-- where an error is answered, anything holds of what is given else
pub not_given : {X E : Type 0} (r : Result X E) (P : X → Type 0) → IsErr r → IfOk r P
not_given (Ok x) P e = absurd cc
not_given (Err e) P is = tt

pub ruleset telling = (tells_front, tells_behind, none_in_both, tells_test, passed, tells_memory)

-- the same, where two tests are joined
pub left_fails : (p q : Bool) → p ≡ false → p && q ≡ false
left_fails p q e = rw e refl

pub right_fails : (p q : Bool) → p ≡ true → q ≡ false → p && q ≡ false
right_fails p q d e = rw (d, e) refl

pub no_value_left : (a b : Option Sort) → may_be_value a ≡ false → comparable a b ≡ false
no_value_left None b e = cc
no_value_left (Some (Valued Int)) b e = cc
no_value_left (Some (Valued Text)) b e = cc
no_value_left (Some Truth) b e = refl

pub no_value_right : (a b : Option Sort) → may_be_value b ≡ false → comparable a b ≡ false
no_value_right a None e = cc
no_value_right a (Some (Valued Int)) e = cc
no_value_right a (Some (Valued Text)) e = cc
no_value_right None (Some Truth) e = refl
no_value_right (Some (Valued Int)) (Some Truth) e = refl
no_value_right (Some (Valued Text)) (Some Truth) e = refl
no_value_right (Some Truth) (Some Truth) e = refl
