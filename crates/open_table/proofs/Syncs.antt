-- One turn of a table's sync.
use Rattle.std.proofs.Common.{◌≡◌, suc, Bool, cond, List, [], ◌∷◌, ◌++◌, map, length, Some, None, Option, refl, ap, ◌∙◌}
use Rattle.open_table.specs.Stages.{MovesTo, Syncs, after_sync}
use Rattle.open_table.specs.Tables.{entry_in}
use Rattle.open_table.specs.declared.stage.Entry.{Entry}
use Rattle.open_table.specs.declared.stage.Stage.{Stage}
use Rattle.open_table.specs.declared.stage.Stage.TheVariants.{Written, Logged, Running, Finished, Closing}
use Rattle.service.specs.Table as model
use Rattle.std.specs.List.Retain.{RetainsInTurn}
use Rattle.time.specs.declared.position.Position.{Position}

abbrev kept : Entry → Option Stage → List Entry → List Entry
kept e None es = es
kept e (Some s) es = record { ticket = e.ticket; stage = s } ∷ es

-- the entries after a sync
abbrev pub synced : List Entry → List Entry
synced [] = []
synced (e ∷ es) = kept e (after_sync e.stage) (synced es)

moves : (o : Option Stage) (e f : Entry) (b : Bool) (es : List Entry) → MovesTo o e f b → cond b (f ∷ es) es ≡ kept e o es
moves None e f b es h = ap (λ t. cond t (f ∷ es) es) h
moves (Some s) e f b es h = ap (λ t. cond t (f ∷ es) es) h.0 ∙ ap (λ x. x ∷ es) h.1

-- what stays of the entries when a test that syncs them goes over them in turn
pub retained :
    {S : Type 0} (R : S → Entry → Bool → S → Entry → Type 0)
    → ((s : S) (e : Entry) (b : Bool) (t : S) (f : Entry) → R s e b t f → Syncs e f b)
    → (s : S) (es fs : List Entry) → RetainsInTurn R s es fs → fs ≡ synced es
retained R says s [] fs r = r
retained R says s (e ∷ es) fs (b, t, f, h, gs, rest, is) =
    is ∙ moves (after_sync e.stage) e f b gs (says s e b t f h) ∙ ap (kept e (after_sync e.stage)) (retained R says t es gs rest)

entry_of : Position → Stage → Entry
entry_of t s = record { ticket = t; stage = s }

-- the model's sync
pub synced_in : (es : List Entry) → map entry_in (synced es) ≡ model.synced_table (map entry_in es)
synced_in [] = refl
synced_in (e ∷ es) = go e.ticket e.stage (synced_in es)
  where
    go :
        (t : Position) (s : Stage) → map entry_in (synced es) ≡ model.synced_table (map entry_in es)
        → map entry_in (synced (record { ticket = t; stage = s } ∷ es))
        ≡ model.synced_table (map entry_in (record { ticket = t; stage = s } ∷ es))
    go t Written h = ap (λ x. entry_in (record { ticket = t; stage = Logged }) ∷ x) h
    go t Logged h = ap (λ x. entry_in (record { ticket = t; stage = Logged }) ∷ x) h
    go t Running h = ap (λ x. entry_in (record { ticket = t; stage = Running }) ∷ x) h
    go t Finished h = ap (λ x. entry_in (record { ticket = t; stage = Finished }) ∷ x) h
    go t Closing h = h

pub tickets_long : (es : List Entry) → length (model.tickets_of (map entry_in es)) ≡ length es
tickets_long [] = refl
tickets_long (e ∷ es) = ap suc (tickets_long es)

pub table_push : (es : List Entry) (e : Entry) → map entry_in (es ++ (e ∷ [])) ≡ map entry_in es ++ (entry_in e ∷ [])
table_push [] e = refl
table_push (x ∷ es) e = ap (λ ys. entry_in x ∷ ys) (table_push es e)
