-- A line is passed over exactly if it holds no job.
use Rattle.std.proofs.Common.{◌≡◌, ℕ, ◌+◌, ◌<◌, Bool, true, false, eqb, ltb, List, ◌∷◌, ◌++◌, length, get_or, take, drop, sym, refl, ap, ◌∙◌, zero-add, arith, length-append}
use Rattle.std.proofs.lemmas.List.{take-append-drop, drop_more, get_or_at}
use Rattle.std.proofs.lemmas.Bool.{true≢false, both_ways, ltb-true, lt-ltb, eqb-false, ne_eqb}
use Rattle.crontab.specs.Words.{begin, idle}
use Rattle.crontab_grammar.specs.Grammar.{HoldsJob}
use Rattle.crontab_grammar.specs.Laws.{ReadsIdle}
use Rattle.crontab_grammar.proofs.Words.{gap, gap_joined, gap_blanks, gap_stops}

-- a line that is not passed over holds a job
idle_had : (l : List ℕ) → idle l ≡ false → HoldsJob l
idle_had l h = go (ltb (begin l 0) (length l)) refl
  where
    go : (t : Bool) → ltb (begin l 0) (length l) ≡ t → HoldsJob l
    go true e =
        let k : gap l < length l = omega (arith, ltb-true (begin l 0) (length l) e) in
        let z : eqb (get_or l (gap l) 0) 35 ≡ false = rw (e, zero-add (gap l)) at h in
        record {
          before = take (gap l) l;
          byte = get_or l (gap l) 0;
          after = drop (gap l + 1) l;
          bytes =
              sym (take-append-drop (gap l) l)
              ∙ ap (λ (r : List ℕ). take (gap l) l ++ r) (drop_more l (gap l) 0 k);
          blanks = gap_blanks l;
          solid = gap_stops l k;
          no_comment = eqb-false (get_or l (gap l) 0) 35 z;
        }
    go false e = absurd (true≢false (rw e at h))

-- a line that holds a job is not passed over
idle_read : (l : List ℕ) → HoldsJob l → idle l ≡ false
idle_read l p =
    let a = p.before in
    let r = p.byte ∷ p.after in
    let g : gap l ≡ length a = ap gap p.bytes ∙ gap_joined a r p.blanks (λ k. p.solid) in
    let n = ap length p.bytes in
    let k : begin l 0 < length l = omega (arith, length-append a r) in
    let d = get_or_at a p.byte p.after 0 (gap l) (sym g) in
    let b : get_or l (gap l) 0 ≡ p.byte = ap (λ (s : List ℕ). get_or s (gap l) 0) p.bytes ∙ d in
    rw (lt-ltb (begin l 0) (length l) k, zero-add (gap l), b, ne_eqb p.byte 35 p.no_comment) refl

pub reads_idle : ReadsIdle
reads_idle l = (idle_had l, idle_read l)

-- so a line that is passed over holds none
pub idle_none : (l : List ℕ) → idle l ≡ true → HoldsJob l → ⊥
idle_none l e h = both_ways (idle l) (idle_read l h) e
