-- A connection's turns behind what others entered.
use Rattle.std.proofs.Common.{◌≡◌, ℕ, Bool, List, [], ◌∷◌, ◌++◌, refl, sym, ap, ◌∙◌, subst}
use Rattle.handle_model.specs.declared.entry.Home.{Home}
use Rattle.handle_model.specs.declared.entry.Entry.{Entry}
use Rattle.handle_model.specs.declared.entry.Entry.TheVariants.{Join}
use Rattle.handle_model.specs.Bases.{empty_base}
use Rattle.handle_model.specs.Journal.{Legal, LegalSince}
use Rattle.conn_histories.specs.Histories.{Event}
use Rattle.conn_histories.specs.declared.turn.Turn.{Turn}
use Rattle.conn_histories.specs.Tales.{whole, StandAll}
use Rattle.conn_histories.specs.Stories.{Server, Story}
use Rattle.conn_turns.specs.Laws.{AreOfOthers}
use Rattle.conn_turns.proofs.Staying.{turns_stay}
use Rattle.conn_turns.proofs.Keeping.{stories_stay}
use Rattle.hub_story.specs.declared.item.Item.{Item}
use Rattle.hub_story.specs.declared.item.Item.TheVariants.{Of}
use Rattle.hub_story.specs.Histories.{home_of, past_in, items_of}
use Rattle.hub_story.specs.Passes.{Seen, HasOwn}
use Rattle.hub_story.specs.Calls.{Enters}
use Rattle.hub_story.proofs.ItemLemmas.{past-append, past_items}
use Rattle.conn_turns.proofs.Others.{apart_others}

older_legal : (home : Home) (newer past : List Entry) → Legal (whole home (newer ++ past)) → Legal (whole home past)
older_legal home [] past l = l
older_legal home (e ∷ newer) past l = older_legal home newer past l.1

pub calls_enter : (boot s g : ℕ) (v w : Seen) (between : List Item) (es : List Entry) → Enters boot s v w between (items_of g es) → past_in g w.log ≡ es ++ past_in g (v.log ++ between)
calls_enter boot s g v w between es e =
    ap (past_in g) e.log ∙ (past-append g (v.log ++ between) (items_of g es) ∙ ap (λ l. l ++ past_in g (v.log ++ between)) (past_items g es))

pub others_enter : (boot s g c : ℕ) (gone : Bool) (v w : Seen) (between more : List Item) (turns : List Turn) → Enters boot s v w between more → HasOwn v (Of g (Join c))
    → StandAll c gone (past_in g v.log) turns → AreOfOthers c turns (past_in g between)
others_enter boot s g c gone v w between more turns e own stand = apart_others g c gone v between turns e.apart own stand

pub turns_are_kept : (boot s g c : ℕ) (gone : Bool) (v w : Seen) (between more : List Item) (turns : List Turn) → Enters boot s v w between more → HasOwn v (Of g (Join c))
    → StandAll c gone (past_in g v.log) turns → StandAll c gone (past_in g (v.log ++ between)) turns
turns_are_kept boot s g c gone v w between more turns e own stand =
    subst (λ l. StandAll c gone l turns) (sym (past-append g v.log between))
    (turns_stay c gone (past_in g between) (past_in g v.log) turns (apart_others g c gone v between turns e.apart own stand) stand)

pub stories_are_kept : (server : Server) (boot s g c : ℕ) (gone : Bool) (v w : Seen) (between more : List Item) (turns : List Turn) (own : List Entry) (seen : List Event) (put : List ℕ)
    → Enters boot s v w between more → HasOwn v (Of g (Join c)) → Story server (home_of boot g) c (past_in g v.log) gone turns own seen put
    → Story server (home_of boot g) c (past_in g (v.log ++ between)) gone turns own seen put
stories_are_kept server boot s g c gone v w between more turns own seen put e joined story =
    let stand = story.made.stand in
    let whole_is : past_in g w.log ≡ past_in g more ++ past_in g (v.log ++ between) = ap (past_in g) e.log ∙ past-append g (v.log ++ between) more in
    let legal : Legal (whole (home_of boot g) (past_in g (v.log ++ between))) =
    older_legal (home_of boot g) (past_in g more) (past_in g (v.log ++ between)) (subst (λ l. Legal (whole (home_of boot g) l)) whole_is (e.story.sound g).legal) in
    let here : Legal (whole (home_of boot g) (past_in g between ++ past_in g v.log)) = subst (λ l. Legal (whole (home_of boot g) l)) (past-append g v.log between) legal in
    subst (λ l. Story server (home_of boot g) c l gone turns own seen put) (sym (past-append g v.log between))
    (stories_stay server (home_of boot g) c gone (past_in g between) (past_in g v.log) turns own seen put here (apart_others g c gone v between turns e.apart joined stand) story)
