-- Two runs of one machine with the same lines.
use Rattle.runs.proofs.Names.{arith, nat_tests, ℕ, true, List, [], Option, None, Some, refl, sym, ap, subst, append-nil, flat_map-append, Answer, Refusal}
use Rattle.runs.proofs.Names.{Command, Geometry, Line, Machine, Running, Up, Reply, Reported, Turn, IsRun, Replies, reply_text, output_of, Answers, Outcome}
use Rattle.runs.proofs.Names.{Step, takes_memory, Says, says_one, lines_in, SteadyRunsAgree, IsSteady, wants_memory_to_show}
use Rattle.std.proofs.Common.{◌≡◌, ◌∷◌, ◌++◌, ◌∙◌, ◌≢◌}
use Rattle.model.specs.declared.answer.Answer.TheVariants as answer
use Rattle.model.specs.declared.answer.Refusal.TheVariants as refusal
use Rattle.model.specs.declared.line.Line.TheVariants as line

-- both answers are equal, and both machines are the same and up
record Agree (x y : Answer) (a b : Machine) : Type 0 where
  then_up : Running
  answers : x ≡ y
  first : a ≡ Up then_up
  second : b ≡ Up then_up

abbrev AnswersBy : Running → Outcome → Option Refusal → Answer → Machine → Type 0
AnswersBy s o r a after = elim r [
  | Some why ↦ (a ≡ answer.Refused why) × (after ≡ Up s)
  | None ↦ (a ≡ o.answer) × (after ≡ Up o.after)
]

answers_agree : (s : Running) (o : Outcome) (r : Option Refusal) (x y : Answer) (a b : Machine) → AnswersBy s o r x a →
    AnswersBy s o r y b → Agree x y a b
answers_agree s o r x y a b p q = search (arith, nat_tests)

-- the reply isn't `Fault`, nor `NoMemory` to a command that takes memory
record IsFine (l : Line) (p : Reply) : Type 0 where
  device : p ≢ Reported (answer.Refused refusal.Fault)
  memory : (c : Command) → l ≡ line.Command c → takes_memory c ≡ true → p ≢ Reported (answer.Refused refusal.NoMemory)

fine : (t : Turn) (l : Line) → IsSteady t → Says t.line l → IsFine l t.reply
fine t l steady says = record { device = steady.device; memory = λ c is. steady.memory c (subst (Says t.line) is says) }

-- if a reply is fine, it is the answer to the command
own : (g : Geometry) (s : Running) (c : Command) (p : Reply) (a : Answer) (after : Machine) → IsFine (line.Command c) p →
    p ≡ Reported a → Step g (Up s) c a after → Answers g s c a after
own g s c p a after steady reported step = search (arith, nat_tests, wants_memory_to_show)

-- both replies are equal, and both machines are the same and up
record AgreeOn (p q : Reply) (a b : Machine) : Type 0 where
  then_up : Running
  replies : p ≡ q
  first : a ≡ Up then_up
  second : b ≡ Up then_up

replies_agree : (g : Geometry) (s : Running) (l : Line) (p q : Reply) (a b : Machine) → Replies g l (Up s) p a → Replies g l (Up s) q b →
    IsFine l p → IsFine l q → AgreeOn p q a b
replies_agree g s line.Skip p q a b x y steady_p steady_q = record { then_up = s; replies = x.0 ∙ sym y.0; first = x.1; second = y.1 }
replies_agree g s line.Bad p q a b x y steady_p steady_q = record { then_up = s; replies = x.0 ∙ sym y.0; first = x.1; second = y.1 }
replies_agree g s (line.Command c) p q a b x y steady_p steady_q = search (arith, nat_tests, answers_agree, own)

same_head : (x y : List ℕ) (xs ys : List (List ℕ)) → x ∷ xs ≡ y ∷ ys → (x ≡ y) × (xs ≡ ys)
same_head x y xs ys same = (cc, cc)

output_cons : (t : Turn) (ts : List Turn) → output_of (t ∷ ts) ≡ reply_text t.reply ++ output_of ts
output_cons t ts = flat_map-append (λ (u : Turn). reply_text u.reply) (t ∷ []) ts
    ∙ ap (λ (xs : List ℕ). xs ++ output_of ts) (append-nil (reply_text t.reply))

pub runs_agree : SteadyRunsAgree
runs_agree g s [] [] a b run_a run_b same steady_a steady_b = (refl, run_a ∙ sym run_b)
runs_agree g s [] (u ∷ us) a b run_a run_b same steady_a steady_b = cc
runs_agree g s (t ∷ ts) [] a b run_a run_b same steady_a steady_b = cc
runs_agree g s (t ∷ ts) (u ∷ us) a b run_a run_b same steady_a steady_b =
    let heads = same_head t.line u.line (lines_in ts) (lines_in us) same in
    let turn_t = run_a.1 in
    let turn_u = run_b.1 in
    let one : turn_u.0 ≡ turn_t.0 = says_one u.line turn_u.0 turn_t.0 turn_u.1
    (subst (λ (text : List ℕ). Says text turn_t.0) heads.0 turn_t.1) in
    let first : Replies g turn_t.0 (Up s) t.reply t.after = subst (λ (m : Machine). Replies g turn_t.0 m t.reply t.after) run_a.0 turn_t.2
    in
    let second : Replies g turn_t.0 (Up s) u.reply u.after =
    subst (λ (l : Line). Replies g l (Up s) u.reply u.after) one (subst (λ (m : Machine). Replies g turn_u.0 m u.reply u.after) run_b.0
    turn_u.2) in
    let reported = replies_agree g s turn_t.0 t.reply u.reply t.after u.after first second
    (fine t turn_t.0 steady_a.0 turn_t.1) (fine u turn_t.0 steady_b.0 (subst (Says u.line) one turn_u.1)) in
    let rest = runs_agree g reported.then_up ts us a b
    (subst (λ (m : Machine). IsRun g m ts a) reported.first run_a.2) (subst (λ (m : Machine). IsRun g m us b) reported.second run_b.2)
    heads.1 steady_a.1
    steady_b.1 in (
      output_cons t ts ∙ ap (λ (r : Reply). reply_text r ++ output_of ts) reported.replies
          ∙ ap (λ (xs : List ℕ). reply_text u.reply ++ xs) rest.0 ∙
          sym (output_cons u us),
      rest.1,
    )
