use Rattle.lq_players.proofs.at_once.AtOnceSource.looks.Goals as goal

pub returns-clause-looks : goal.returns-clause-looks
returns-clause-looks g c = λ stamp told. record { knows = λ z h. tt; awaits = λ database stands more z h. tt; yields = λ on refusal z h. tt }
