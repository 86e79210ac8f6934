mod TestFeeds
