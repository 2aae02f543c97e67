use Rattle.std.proofs.Common.{arith, length-append}
use Rattle.mime_base.specs.Cache.Bytes.{card_bytes}
use Rattle.mime_store.proofs.BytesLemmas.Lists.{list_grew, list_numbers}
use Rattle.mime_store.proofs.BytesLemmas.Records.{length-card}
use Rattle.mime_store.proofs.bytes.append_list.Goals as goal

pub append_cards-requires : goal.append_cards-requires
append_cards-requires c =
    rw c.in_ok-append_card.ensures
    (omega (arith, c.requires.room, length-append c.args.out.now.items (card_bytes c.args.count), length-card c.args.count))

pub returns-clause-grew : goal.returns-clause-grew
returns-clause-grew c =
    list_grew c.args.out.now.items c.append_card.new.out.items _ c.args.count c.args.numbers.now
    c.in_ok-append_card.ensures c.in_ok-append_cards.ensures

pub returns-clause-numbers : goal.returns-clause-numbers
returns-clause-numbers c =
    list_numbers c.args.out.now.items c.append_card.new.out.items _ c.args.count _ c.args.numbers.now c.requires.begun
    c.place_of-at.ensures (λ k. omega (arith, c.type_inv.numbers k)) c.in_ok-append_card.ensures
    c.in_ok-append_cards.ensures
