use Rattle.lq_players.proofs.syncing.SyncingSource.looks.Goals as goal

pub returns-clause-looks : goal.returns-clause-looks
returns-clause-looks g c = λ stamp told. record { knows = λ z h. h; awaits = λ database stands more z h. h; yields = λ on refusal z h. h }
