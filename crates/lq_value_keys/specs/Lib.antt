pub mod ValueKeys
