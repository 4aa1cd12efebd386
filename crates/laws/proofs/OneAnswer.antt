-- What it is for a function's promise to allow one answer only, and one later content of what it is lent. Assumes nothing.
use mathlib.Core.Path.{◌≡◌, sym, ◌∙◌}
use mathlib.Core.List.{List}
use Prim.Native.Nat.{ℕ}
use contract.Lifetimes.{Lfts}
use denote.Triple.Clauses.{AtExit}
use borrow.Fn.Kinds.{ParamKind, ResultKind, Out, Dens, res_t, ended_of}

-- for all arguments, two results that the promise allows are the same
abbrev pub OneAnswer : {n : ℕ} (ps : List (ParamKind n)) (r : ResultKind n) → Out n ps r → Type 0
OneAnswer {n} ps r post =
    (κs : Lfts n) (args : Dens κs ps) (x y : (res_t r κs).Denot) (s t : AtExit (ended_of n ps r) κs)
    → post κs args x s → post κs args y t → x ≡ y

-- the same of what a caller reads of the results, where they carry proofs, of which nothing is read
abbrev pub OneReading : {n : ℕ} (ps : List (ParamKind n)) (r : ResultKind n) {L : Type 0} → ((κs : Lfts n) → (res_t r κs).Denot → L) → Out n ps r → Type 0
OneReading {n} ps r read post =
    (κs : Lfts n) (args : Dens κs ps) (x y : (res_t r κs).Denot) (s t : AtExit (ended_of n ps r) κs)
    → post κs args x s → post κs args y t → read κs x ≡ read κs y

-- and so are what it then holds, for a function that lends something to be written
abbrev pub OneAnswerAnd : {n : ℕ} (ps : List (ParamKind n)) (r : ResultKind n) {L : Type 0} → ((κs : Lfts n) → AtExit (ended_of n ps r) κs → L) → Out n ps r → Type 0
OneAnswerAnd {n} ps r later post =
    (κs : Lfts n) (args : Dens κs ps) (x y : (res_t r κs).Denot) (s t : AtExit (ended_of n ps r) κs)
    → post κs args x s → post κs args y t → (x ≡ y) × (later κs s ≡ later κs t)

-- the same of two promises over the same parameters: on the same arguments, what one allows and what the other allows is the same
abbrev pub SameAnswersAnd : {n : ℕ} (ps : List (ParamKind n)) (r : ResultKind n) {L : Type 0} → ((κs : Lfts n) → AtExit (ended_of n ps r) κs → L) → Out n ps r → Out n ps r → Type 0
SameAnswersAnd {n} ps r later post other =
    (κs : Lfts n) (args : Dens κs ps) (x y : (res_t r κs).Denot) (s t : AtExit (ended_of n ps r) κs)
    → post κs args x s → other κs args y t → (x ≡ y) × (later κs s ≡ later κs t)

-- two that equal a third are the same
pub same : {A : Type 0} {x y d : A} → x ≡ d → y ≡ d → x ≡ y
same e f = e ∙ sym f
