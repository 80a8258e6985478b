-- A job's command is the file's own bytes.
use Rattle.std.proofs.Common.{◌≡◌, ℕ, zero, suc, ◌+◌, ◌<◌, ◌≤◌, List, [], ◌∷◌, ◌++◌, length, take, drop, Some, sym, refl, ap, ◌∙◌, subst, arith}
use Rattle.std.proofs.lemmas.List.{append_assoc, drop_at, drop-drop, drop-take, length-append, length-drop, length-take-le}
use Rattle.std.proofs.lemmas.Bool.{le-leb}
use Rattle.std.specs.List.{slice_get}
use Rattle.scan.specs.Scan.{is}
use Rattle.scan.specs.declared.Kind.TheVariants.{Byte}
use Rattle.scan.proofs.First.{first_le}
use Rattle.crontab.specs.declared.job.Job.{Job}
use Rattle.crontab.specs.File.{lines}
use Rattle.crontab.proofs.Whole.{line_length, lines_step}
use Rattle.crontab_grammar.specs.Grammar.{Word, JobOf, JobsOf, none, idle, job}
use Rattle.crontab_grammar.specs.Laws.{Found, TakesBytes}
use Rattle.crontab_grammar.proofs.Orders.{takes_jobs}

-- what a line that begins at a place of the text says of the text
record Lies (s : List ℕ) (start : ℕ) (l : List ℕ) (ls : List (List ℕ)) : Type 0 where
  here : take (length l) (drop start s) ≡ l
  inside : length l + start ≤ length s
  after : lines (drop (start + (length l + 1)) s) ≡ ls

-- the text is not used up where there is a line
some_left : (t l : List ℕ) (ls : List (List ℕ)) → lines t ≡ l ∷ ls → 0 < length t
some_left [] l ls e = absurd cc
some_left (x ∷ t) l ls e = omega arith

lies : (s : List ℕ) (start : ℕ) (l : List ℕ) (ls : List (List ℕ)) → lines (drop start s) ≡ l ∷ ls → Lies s start l ls
lies s start l ls e =
    let t = drop start s in
    let n = line_length t in
    let left = some_left t l ls e in
    let q : take n t ∷ lines (drop (suc n) t) ≡ l ∷ ls = sym (lines_step t left) ∙ e in
    let head : take n t ≡ l = cc in
    let tail : lines (drop (suc n) t) ≡ ls = cc in
    let le : n ≤ length t = first_le (is (Byte 10)) t in
    let long : n ≡ length l = sym (length-take-le n t le) ∙ ap length head in
    let size = length-drop start s in
    let onward : start + suc n ≡ start + (length l + 1) = omega arith in
    record {
      here = subst (λ (k : ℕ). take k t ≡ l) long head;
      inside = omega arith;
      after = ap lines (ap (λ (k : ℕ). drop k s) (sym onward) ∙ sym (drop-drop (suc n) start s)) ∙ tail;
    }

-- a text ends as the rest behind its first word does
ends_so : {s b w r : List ℕ} → Word s b w r → (c : List ℕ) → (a : List ℕ) × (r ≡ a ++ c) → (a : List ℕ) × (s ≡ a ++ c)
ends_so {s} {b} {w} {r} h c p =
    let a = p.0 in
    (b ++ (w ++ a), h.bytes ∙ ap (λ (x : List ℕ). b ++ (w ++ x)) p.1 ∙ simp append_assoc)

-- a line is what stands before its command, and the command
before_command : {n start : ℕ} {l : List ℕ} {j : Job} (p : JobOf n start l j) → (a : List ℕ) × (l ≡ a ++ p.command)
before_command p =
    let c = p.command in
    ends_so p.first c (ends_so p.second c (ends_so p.third c (ends_so p.fourth c (ends_so p.fifth c (p.b₆, p.rest)))))

-- bytes of the text within a line of it
within_line : (s l : List ℕ) (start : ℕ) (a c : List ℕ) → take (length l) (drop start s) ≡ l → l ≡ a ++ c →
    take (length c) (drop (start + length a) s) ≡ c
within_line s l start a c here e =
    let t = drop start s in
    let long : length l ≡ length a + length c = ap length e ∙ length-append a c in
    ap (take (length c)) (sym (drop-drop (length a) start s))
    ∙ sym (drop-take (length a) (length c) t)
    ∙ ap (λ (k : ℕ). drop (length a) (take k t)) (sym long)
    ∙ ap (drop (length a)) (here ∙ e)
    ∙ drop_at a c (length a) refl

-- so the command's bytes are found at its place
found : (s : List ℕ) (start : ℕ) (l : List ℕ) (n : ℕ) (j : Job) → take (length l) (drop start s) ≡ l →
    length l + start ≤ length s → JobOf n start l j → Found s j
found s start l n j here inside p =
    let w = before_command p in
    let c = p.command in
    let long : length l ≡ length w.0 + length c = ap length w.1 ∙ length-append w.0 c in
    let at : j.command.at ≡ start + length w.0 = omega (arith, p.at) in
    let fits : j.command.at + j.command.length ≤ length s = omega (arith, p.length_is) in
    let bytes : take j.command.length (drop j.command.at s) ≡ c =
    (λ i. take (p.length_is i) (drop (at i) s)) ∙ within_line s l start w.0 c here w.1 in
    record {
      number = n;
      start = start;
      line = l;
      lies = here;
      is_job = p;
      bytes = rw (le-leb _ _ fits) (ap Some bytes);
    }

-- each job of lines is found in the text that has them
job_found : {n start : ℕ} {ls : List (List ℕ)} {js : List Job} (s : List ℕ) → JobsOf n start ls js →
    lines (drop start s) ≡ ls → (k : ℕ) (j : Job) → slice_get js k ≡ Some j → Found s j
job_found s none e k j h = absurd cc
job_found s (idle {n} {start} {l} {ls} q t) e k j h = job_found s t (lies s start l ls e).after k j h
job_found s (job {n} {start} {l} {ls} {j = i} q p t) e zero j h =
    let same : i ≡ j = cc in
    let w = lies s start l ls e in
    subst (Found s) same (found s start l n i w.here w.inside p)
job_found s (job {n} {start} {l} {ls} q p t) e (suc k) j h = job_found s t (lies s start l ls e).after k j h

pub takes_bytes : TakesBytes
takes_bytes s js e k j h = job_found s (takes_jobs s js e) refl k j h
